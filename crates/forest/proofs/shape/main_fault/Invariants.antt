use Prim.Native.Nat.{◌≤◌}
use lib.ListN.{length}
use Rattle.text.specs.Frames.{frames_of}
use Rattle.forest.proofs.ShapePass.{NoModuleFrom}
use Rattle.forest.proofs.shape.main_fault.Given as goal

abbrev pub invariant-loop-n : goal.invariant-loop-n
invariant-loop-n l = (l.n ≤ length l.lines.words.now) × NoModuleFrom (frames_of l.lines.words.now) l.n
