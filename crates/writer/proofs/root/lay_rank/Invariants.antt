use Rattle.writer.proofs.Roots.{Laying}
use Rattle.writer.proofs.root.lay_rank.Given as goal

abbrev pub invariant-loop-i : goal.invariant-loop-i
invariant-loop-i l = Laying l.words l.rank l.n l.initial.out l.next l.out l.i
