pub mod MemberLaws
pub mod MembersSay
