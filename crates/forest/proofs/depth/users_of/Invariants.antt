use Rattle.text.specs.Frames.{frames_of}
use Rattle.forest.proofs.UserArray.{Noting}
use Rattle.forest.proofs.depth.users_of.Given as goal

abbrev pub invariant-loop-i : goal.invariant-loop-i
invariant-loop-i l = Noting (frames_of l.lines.words.now) l.users l.i
