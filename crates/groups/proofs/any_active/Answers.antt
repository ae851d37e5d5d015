-- `any_active` meets its contract.
use Rattle.std.proofs.Common.{ℕ, Bool, rules, arith, refl, ◌+◌, ◌∙◌}
use Rattle.std.proofs.lemmas.Iterator.{YieldsList-from_range}
use Rattle.std.proofs.lemmas.Iterator.Search.{any_from_yields_List}
use Rattle.language.specs.Inner.Labels.{same_label}
use Rattle.groups.specs.Inner.Members.{is_active_member, active_on}
use Rattle.groups.proofs.MemberLaws.{any-members}
use Rattle.groups.proofs.any_active.Goals as goal

pub returns : goal.returns
returns c =
    let n : ℕ = c.args.schedulers.now.count in
    let test : ℕ → Bool = is_active_member c.args.schedulers.now.labels c.args.q.number c.args.state.now in
    any_from_yields_List test _ _ _ c.any.ensures.ran (YieldsList-from_range 2 (2 + n) n refl (omega arith)) (λ x b q k. search rules)
    ∙ any-members (same_label c.args.schedulers.now.labels c.args.q.number) (active_on c.args.state.now) 2 n
