-- The lowest frame with the fault 4 or 5, as functions that compute. No reader has to believe it:
-- layout/proofs/Layouts and proofs/FramePass tie it to the definitions. Assumes nothing:
-- definitions.
use Rattle.std.specs.Prelude.{Bool, not, ◌&&◌, List, ℕ, ◌<◌, ◌≤◌, leb, eqb, length}
use Rattle.std.specs.Prelude.{Option, Some, None, Err}
use Rattle.basics.specs.If.{when◌then◌else◌}
use Rattle.basics.specs.Inner.Searches.{lowest}
use Rattle.language.specs.Kinds.{is_header}
use Rattle.language.specs.Limits.{most_schedulers, most_events}
use Rattle.language.specs.Verdicts.{Verdict, Accepted, Rejected}
use Rattle.language.specs.declared.refusal.Rule.{Rule}
use Rattle.language.specs.declared.kind.Uses.{Uses}
use Rattle.language.specs.declared.frame.Frame.{Frame}
use Rattle.text.specs.Frames.{frames_of}
use Rattle.program.specs.Trees.{frame_at}
use Rattle.fields.specs.Fields.{header_fine, schedulers_of, field_fine, frame_fine}

-- ---- 4: what can be seen of the header alone; the count of the events is left
unfoldable pub header_alone : Frame → Bool
header_alone f =
    is_header f.kind && eqb f.s 1 && leb 1 f.b && leb f.b most_schedulers
    && leb f.c most_events

-- ---- the lowest frame with the fault 4, and with 5
unfoldable pub header_fault : List Frame → Option ℕ
header_fault fs = when header_fine fs then None else Some 0

unfoldable pub field_fault : List Frame → Option ℕ
field_fault fs = lowest (λ (i : ℕ) (f : Frame). not (frame_fine fs i f)) 0 fs

-- frame i has no fault 5
abbrev pub fine_at : List Frame → ℕ → Bool
fine_at fs i = frame_fine fs i (frame_at fs i)

-- that rule is broken of the frame, if there is one
abbrev pub refused_at : Rule → Option ℕ → Verdict
refused_at n None = Accepted
refused_at n (Some j) = Rejected n j

-- v, where it refuses; else what comes next, which is computed only then
abbrev pub then_try : Verdict → (Unit {0} → Verdict) → Verdict
then_try Accepted next = next tt
then_try (Err r) next = Err r

-- ---- 5: the fields of frame i, which is f, are right for these uses
abbrev pub fields_fine : List Frame → ℕ → Frame → Uses → Bool
fields_fine fs i f us = field_fine fs i f us.s f.s && field_fine fs i f us.a f.a && field_fine fs i f us.b f.b && field_fine fs i f us.c f.c

-- ---- what a caller has to show

-- there is a header, and no more schedulers than there may be
abbrev pub HeaderWords : List ℕ → Type 0
HeaderWords words = (0 < length words) × (schedulers_of (frames_of words) ≤ most_schedulers)
