-- `thread_block_in_range` meets its contract.
use Rattle.std.proofs.Common.{arith, ◌+◌, ◌-◌, ◌*◌}
use Rattle.ranges.proofs.BlockLaws.{thread_none}
use Rattle.ranges.proofs.range.thread_block_in_range.Goals as goal

pub returns-else-k-state : goal.returns-else-k-state
returns-else-k-state c =
    let at = 1042 + 55 * c.args.k in
    thread_none _ _ _ (at + 55 - at) _ _ c.if-k-state.false (omega arith) (omega arith) c.are_zeros.ensures
