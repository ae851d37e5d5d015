-- `labels_of` meets its contract.
use Rattle.std.proofs.Common.{rules}
use Rattle.program.proofs.LinkLaws.{line_placed, taken_more}
use Rattle.program.proofs.group.labels_of.Goals as goal

pub take_link-requires : goal.take_link-requires
take_link-requires c = search line_placed

pub loop-k-preserved : goal.loop-k-preserved
loop-k-preserved c = (search rules, search taken_more)
