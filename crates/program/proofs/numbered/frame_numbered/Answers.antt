-- `frame_numbered` meets its contract.
use Rattle.program.proofs.NumberedLaws.{finding_other, finding_one, found_here, found_none}
use Rattle.program.proofs.numbered.frame_numbered.Goals as goal
use Rattle.program.proofs.numbered.frame_numbered.Goals.{then-is_numbered+else-left-eq0, else-is_numbered}

pub returns-then-left-eq0 : goal.returns-then-left-eq0
returns-then-left-eq0 c = search found_here

pub loop-line-preserved : goal.loop-line-preserved
loop-line-preserved c =
    elim c.if-is_numbered.branch [
      | then-is_numbered+else-left-eq0 w ↦ rw w.left-is (search finding_one)
      | else-is_numbered w ↦ rw w.left-is (search finding_other)
    ]

pub returns : goal.returns
returns c = search found_none
