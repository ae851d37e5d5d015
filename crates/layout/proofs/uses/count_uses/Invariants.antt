use Rattle.text.specs.Frames.{frames_of}
use Rattle.layout.proofs.UseCounts.{CountingUses}
use Rattle.layout.proofs.uses.count_uses.Given as goal

abbrev pub invariant-loop-i : goal.invariant-loop-i
invariant-loop-i l = CountingUses (frames_of l.words) l.counts l.i
