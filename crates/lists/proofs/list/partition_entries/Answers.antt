-- `partition_entries` meets its contract.
use borrow.Author.Rules.{rules}
use Rattle.lists.proofs.PartitionLaws.{partition_start}
use Rattle.lists.proofs.PartitionLaws.{partition_ready, partition_waiting}
use Rattle.lists.proofs.PartitionLaws.{partition_count, partition_end}
use Rattle.lists.proofs.list.partition_entries.Goals as goal
use Rattle.lists.proofs.list.partition_entries.Goals.{then-moves, else-moves}

pub loop-j-init : goal.loop-j-init
loop-j-init c = (search rules, partition_start _ _ _ _)

pub loop-j-preserved : goal.loop-j-preserved
loop-j-preserved c = elim c.if-moves.branch [
  | then-moves w ↦ rw (w.state-is, w.r-is) (search rules, search partition_ready)
  | else-moves w ↦ rw (w.state-is, w.r-is) (search rules, search partition_waiting)
]

pub returns : goal.returns
returns c = record { count = search partition_count; words = search partition_end }
