use Prim.Native.Nat.{◌≤◌}
use lib.ListN.{length}
use Rattle.text.specs.Frames.{frames_of}
use Rattle.layout.proofs.Raises.{Sinking}
use Rattle.layout.proofs.depth.depths_down.Given as goal

abbrev pub invariant-loop-n : goal.invariant-loop-n
invariant-loop-n l = (l.n ≤ length l.lines.words.now) × Sinking (frames_of l.lines.words.now) (length l.lines.words.now) l.initial.u l.u l.n
