-- `enter_children` meets its contract.
use borrow.Author.Rules.{rules}
use Rattle.program.proofs.ChildFolds.{child_fold}
use Rattle.forest.specs.Inner.Walks.{entered}
use Rattle.forest.proofs.ChildLoops.{children_next, children_end}
use Rattle.forest.proofs.CycleWalk.{room_kept, entered_past}
use Rattle.forest.proofs.cycle.Met.enter_children.Goals as goal

pub loop-v-preserved : goal.loop-v-preserved
loop-v-preserved c =
    let step = entered c.args.i c.args.n in
    let turn = c.enter.ensures in (
      room_kept _ _ _ _ _ _ _ _ _ turn c.loop-v.invariant.0 c.requires.0,
      children_next step _ _ _ (search rules) _ c.loop-v.invariant.1 _ turn c.loop-v-test.true,
    )

pub returns : goal.returns
returns c =
    let step = entered c.args.i c.args.n in
    child_fold step (entered_past c.args.i c.args.n c.requires.0)
    _ _ _ _ c.child_numbers-v-items.ensures
    (children_end step _ _ _ (search rules) _ c.loop-v.invariant.1 c.loop-v-test.false)
