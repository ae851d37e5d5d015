-- `note_users` meets its contract.
use borrow.Author.Rules.{rules}
use Rattle.program.proofs.ChildFolds.{child_fold}
use Rattle.forest.specs.Inner.Climbs.{with_user}
use Rattle.forest.proofs.ChildLoops.{children_end}
use Rattle.forest.proofs.UserArray.{note_past}
use Rattle.forest.proofs.depth.note_users.Goals as goal

pub returns : goal.returns
returns c =
    let step = with_user c.args.user in
    child_fold step (note_past c.args.user) _ _ _ _ c.child_numbers-v-items.ensures
    (children_end step _ _ _ (search rules) _ c.loop-v.invariant c.loop-v-test.false)
