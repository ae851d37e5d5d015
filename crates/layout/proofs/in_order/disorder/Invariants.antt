use mathlib.Core.Path.{◌≡◌}
use lib.ListN.{length}
use Rattle.text.specs.Frames.{frames_of}
use Rattle.layout.specs.Inner.Passes.{Backward}
use Rattle.layout.proofs.DisorderPass.{SeekingDisorder}
use Rattle.layout.proofs.in_order.disorder.Given as goal

abbrev pub invariant-loop-i : goal.invariant-loop-i
invariant-loop-i l = (length l.first ≡ 1024) × Backward l.first l.i × SeekingDisorder (frames_of l.lines.words.now) l.first l.i
