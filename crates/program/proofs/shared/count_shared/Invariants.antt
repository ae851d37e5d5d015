use Rattle.std.proofs.Common.{◌≡◌, ◌≤◌, ◌+◌, length, drop}
use Rattle.text.specs.Frames.{frames_of}
use Rattle.program.specs.Programs.{shared_of}
use Rattle.program.proofs.shared.count_shared.Given as goal

abbrev pub invariant-loop-line : goal.invariant-loop-line
invariant-loop-line l =
    (l.n ≤ l.line-index)
    × (l.n + length (shared_of (frames_of (drop l.line-index l.frames))) ≡ length (shared_of (frames_of l.frames)))
