use Rattle.text.specs.Frames.{frames_of}
use Rattle.forest.proofs.ShapePass.{SeekingMisfit}
use Rattle.forest.proofs.shape.class_fault.Given as goal

abbrev pub invariant-loop-i : goal.invariant-loop-i
invariant-loop-i l = SeekingMisfit (frames_of l.lines.words.now) l.i
