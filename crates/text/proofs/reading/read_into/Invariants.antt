use Rattle.text.proofs.ReadLaws.{Reader}
use Rattle.text.proofs.reading.read_into.Given as goal

abbrev pub invariant-loop-i : goal.invariant-loop-i
invariant-loop-i l = Reader l.text l.words l.i
