-- `room_on_each` meets its contract.
use Rattle.std.proofs.Common.{ℕ, Bool, not, rules, arith, refl, ap, ◌+◌, ◌∙◌}
use Rattle.std.proofs.lemmas.Iterator.{YieldsList-from_range}
use Rattle.std.proofs.lemmas.Iterator.Search.{any_from_yields_List}
use Rattle.language.specs.Inner.Labels.{same_label}
use Rattle.groups.specs.Inner.Members.{lacks_room, room_on}
use Rattle.groups.proofs.MemberLaws.{none-members}
use Rattle.groups.proofs.room_on_each.Goals as goal

pub returns : goal.returns
returns c =
    let n : ℕ = c.args.schedulers.now.count in
    let test : ℕ → Bool = lacks_room c.args.schedulers.now.labels c.args.q.number c.args.e c.args.state.now in
    ap not (any_from_yields_List test _ _ _ c.any.ensures.ran (YieldsList-from_range 2 (2 + n) n refl (omega arith)) (λ x b q k. search rules))
    ∙ none-members (same_label c.args.schedulers.now.labels c.args.q.number) (room_on c.args.e c.args.state.now) 2 n
