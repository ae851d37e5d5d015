-- `on_cycle` meets its contract.
use borrow.Author.Rules.{rules}
use Rattle.forest.proofs.CycleWalk.{room_zeros, all_most}
use Rattle.forest.proofs.CycleReach.{look_start, look_room, look_inside}
use Rattle.forest.proofs.CycleReach.{look_next, look_found, look_end}
use Rattle.forest.proofs.cycle.on_cycle.Goals as goal

pub enter_children-requires : goal.enter_children-requires
enter_children-requires c = (search rules, search room_zeros)

pub loop-k-init : goal.loop-k-init
loop-k-init c = (search (all_most, room_zeros), search look_start)

pub returns-then-j-i : goal.returns-then-j-i
returns-then-j-i c = search look_found

pub frame_at-requires-in-loop-k : goal.frame_at-requires-in-loop-k
frame_at-requires-in-loop-k c = search look_inside

pub enter_children-requires-in-loop-k : goal.enter_children-requires-in-loop-k
enter_children-requires-in-loop-k c = (search rules, search look_room)

-- by hand: after two calls on two lent arrays `search` breaks off
pub loop-k-preserved : goal.loop-k-preserved
loop-k-preserved c = (
  search (all_most, look_room),
  look_next c.args.lines.words.now _ (search rules) _ _ _ _ c.loop-k.invariant.1 _ c.from-j.ensures
      _ _ _ _ c.frame_at-in-loop-k.ensures c.enter_children-in-loop-k.ensures
      c.loop-k-test.true c.if-j-i.false,
)

pub returns : goal.returns
returns c = search look_end
