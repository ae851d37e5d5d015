use Rattle.writer.proofs.LineDigits.{Written}
use Rattle.writer.proofs.line.put_line.Given as goal

abbrev pub invariant-loop-k : goal.invariant-loop-k
invariant-loop-k l = Written l.initial.out l.at l.w l.out l.rest l.k
