use Rattle.text.specs.Frames.{frames_of}
use Rattle.layout.proofs.OrderPass.{Highest, SeekingMisplaced}
use Rattle.layout.proofs.in_order.misplaced.Given as goal

abbrev pub invariant-loop-i : goal.invariant-loop-i
invariant-loop-i l =
    Highest (frames_of l.lines.words.now) l.top l.i × SeekingMisplaced (frames_of l.lines.words.now) l.i
