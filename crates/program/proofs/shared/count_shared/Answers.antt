-- `count_shared` meets its contract.
use Rattle.program.proofs.SharedLaws.{count_one, count_other, count_end}
use Rattle.program.proofs.shared.count_shared.Goals as goal
use Rattle.program.proofs.shared.count_shared.Goals.{then-line_declares, else-line_declares}

pub loop-line-preserved : goal.loop-line-preserved
loop-line-preserved c =
    elim c.if-line_declares.branch [
      | then-line_declares w ↦ rw w.n-is (count_one c.args.frames.now c.loop-line.line-index c.loop-line.n _ c.loop-line-test.true c.line_declares.ensures c.loop-line.invariant.0 c.loop-line.invariant.1 w.if-line_declares.true)
      | else-line_declares w ↦ rw w.n-is (count_other c.args.frames.now c.loop-line.line-index c.loop-line.n _ c.loop-line-test.true c.line_declares.ensures c.loop-line.invariant.0 c.loop-line.invariant.1 w.if-line_declares.false)
    ]

pub returns : goal.returns
returns c = search count_end
