-- `put_line` meets its contract.
use Rattle.writer.proofs.LineDigits.{written_start, written_next, written_end}
use Rattle.writer.proofs.line.put_line.Goals as goal

pub loop-k-init : goal.loop-k-init
loop-k-init c = written_start _ _ _

pub loop-k-preserved : goal.loop-k-preserved
loop-k-preserved c = search written_next

pub returns : goal.returns
returns c = search written_end
