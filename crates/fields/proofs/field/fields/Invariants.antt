use mathlib.Core.Path.{◌≡◌}
use lib.ListN.{take}
use Rattle.text.specs.Frames.{frames_of}
use Rattle.fields.specs.Inner.Tallies.{tally_of}
use Rattle.fields.proofs.FramePass.{SeekingField}
use Rattle.fields.proofs.field.fields.Given as goal

abbrev pub invariant-loop-i : goal.invariant-loop-i
invariant-loop-i l = (l.t ≡ tally_of (take l.i (frames_of l.words))) × SeekingField (frames_of l.words) l.i
