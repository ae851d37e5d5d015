-- `active_with` meets its contract.
use borrow.Author.Rules.{rules}
use Rattle.lists.proofs.PartitionLaws.{counting_start, counting_one, counting_none}
use Rattle.lists.proofs.PartitionLaws.{counting_end}
use Rattle.lists.proofs.list.active_with.Goals as goal
use Rattle.lists.proofs.list.active_with.Goals.{then-awaits, else-awaits}

pub loop-j-init : goal.loop-j-init
loop-j-init c = (search rules, counting_start _ _ _ _)

pub loop-j-preserved : goal.loop-j-preserved
loop-j-preserved c = elim c.if-awaits.branch [
  | then-awaits w ↦ rw w.threads-is (search rules, search counting_one)
  | else-awaits w ↦ rw w.threads-is (search rules, search counting_none)
]

pub returns : goal.returns
returns c = search counting_end
