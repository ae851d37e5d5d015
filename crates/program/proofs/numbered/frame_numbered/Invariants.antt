use Rattle.std.proofs.Common.{◌≡◌, drop}
use Rattle.text.specs.Frames.{frames_of}
use Rattle.program.specs.Inner.Numbered.{numbered_in}
use Rattle.program.proofs.numbered.frame_numbered.Given as goal

abbrev pub invariant-loop-line : goal.invariant-loop-line
invariant-loop-line l = numbered_in l.what (frames_of (drop l.line-index l.frames)) l.left ≡ numbered_in l.what (frames_of l.frames) l.n
