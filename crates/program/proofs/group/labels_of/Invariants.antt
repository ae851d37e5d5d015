use Rattle.std.proofs.Common.{◌≡◌, ◌≤◌, length, drop}
use Rattle.language.specs.Inner.Labels.{labels_of}
use Rattle.text.specs.Frames.{frames_of}
use Rattle.program.specs.Programs.{links_of}
use Rattle.program.proofs.group.labels_of.Given as goal

abbrev pub invariant-loop-k : goal.invariant-loop-k
invariant-loop-k l = (l.k ≤ length l.frames) × (l.labels ≡ labels_of (links_of (drop l.k (frames_of l.frames))))
