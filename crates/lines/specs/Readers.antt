-- A reader of a text's lines, of 17 bytes each.
use Rattle.std.specs.Prelude.{[], ◌∷◌, ◌+◌, ◌-◌, ◌/◌, Option, Some, None, is_some}
use Rattle.language.specs.declared.frame.Frame.{Frame}
use Rattle.basics.specs.Prelude.{List, Bool, ℕ, zero, suc, ltb, length}
use Rattle.basics.specs.Prelude.{when◌then◌else◌}
use Rattle.std.specs.Borrow.{Bor}
use Rattle.language.specs.Limits.{line_length, most_lines}
use Rattle.text.specs.Inner.Lines.{frame_read}
use Rattle.lines.specs.declared.LineReader.{LineReader}

-- ---- on a text and the number of a line

-- the line after line n; after the last whole line there is none, and the number stays
unfoldable pub line_after : List ℕ → ℕ → ℕ
line_after bs n = when ltb n (length bs / line_length) then suc n else n

abbrev pub is_read : Option Frame → Bool
is_read r = is_some r

-- a frame in front of those after it; nothing where there is none
abbrev pub in_front : Option Frame → List Frame → List Frame
in_front None fs = []
in_front (Some f) fs = f ∷ fs

-- how many of the k lines from line n on are frames, up to the first that is none
unfoldable pub frames_of_next : ℕ → List ℕ → ℕ → ℕ
frames_of_next zero bs n = 0
frames_of_next (suc k) bs n =
    let more = frames_of_next k bs (suc n) in
    when is_read (frame_read bs n) then suc more else 0

-- how many lines from line n on are frames, up to the first that is none; a frame's number is below
-- 1024
unfoldable pub frames_from : List ℕ → ℕ → ℕ
frames_from bs n = frames_of_next (most_lines - n) bs n

-- the frames of those lines: of the k lines from line n on, up to the first that is none
unfoldable pub frames_until : ℕ → List ℕ → ℕ → List Frame
frames_until zero bs n = []
frames_until (suc k) bs n = in_front (frame_read bs n) (frames_until k bs (n + 1))

-- ---- of a reader

abbrev pub opened : Bor (List ℕ) → LineReader
opened text = record { text = text; next = 0 }

abbrev pub frame_here : LineReader → Option Frame
frame_here r = frame_read r.text.now r.next

abbrev pub moved : LineReader → LineReader
moved r = record { text = r.text; next = line_after r.text.now r.next }

abbrev pub frames_ahead : LineReader → ℕ
frames_ahead r = frames_from r.text.now r.next

-- the frames that a reader has yet to give
abbrev pub frames_left : LineReader → List Frame
frames_left r = frames_until (most_lines - r.next) r.text.now r.next
