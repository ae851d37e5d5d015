pub mod ChangeLaws
pub mod WritingLaws
pub mod SignalLaws
pub mod DecisionLaws
pub mod StartLaws
pub mod FollowLaws
pub mod CommitLaws
