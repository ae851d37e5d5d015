-- `is_list` meets its contract.
use Rattle.std.proofs.Common.{arith, ◌∙◌}
use Rattle.ranges.proofs.BlockLaws.{is_list_none, is_list_there}
use Rattle.ranges.proofs.range.is_list.Goals as goal

pub returns-then-count-most-clause-value : goal.returns-then-count-most-clause-value
returns-then-count-most-clause-value c =
    c.are_zeros.ensures ∙ is_list_there _ c.args.state.now c.args.at _ c.if-count-most.true (omega arith)

pub returns-else-count-most-clause-value : goal.returns-else-count-most-clause-value
returns-else-count-most-clause-value c = is_list_none _ _ _ c.if-count-most.false
