use Rattle.writer.proofs.Roots.{LaidTo}
use Rattle.writer.proofs.root.lay_all.Given as goal

abbrev pub invariant-loop-rank : goal.invariant-loop-rank
invariant-loop-rank l = LaidTo l.words l.initial.out l.next l.out l.rank
