use Rattle.text.specs.Frames.{frames_of}
use Rattle.forest.specs.Inner.Walks.{NoCycleBefore}
use Rattle.forest.proofs.tree.cycle_fault.Given as goal

abbrev pub invariant-loop-i : goal.invariant-loop-i
invariant-loop-i l = NoCycleBefore (frames_of l.lines.words.now) l.i
