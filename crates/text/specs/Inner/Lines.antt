-- One line, as the reader takes it. Assumes nothing: definitions.
use Rattle.std.specs.Prelude.{ℕ, ◌*◌, Bool, true, ◌&&◌, List, [], ◌∷◌, length, take, drop, ◌==◌, nat_le, nat_lt, slice_index, Option, Some, None}
use Rattle.basics.specs.If.{when◌then◌else◌}
use Rattle.language.specs.Limits.{line_length, most_lines}
use Rattle.language.specs.declared.frame.Frame.{Frame}
use Rattle.text.specs.Digits.{digit, line_feed}
use Rattle.text.specs.Frames.{line_word, frame_of_word}

-- a line has so many digits, and then a line feed
abbrev pub line_digits : ℕ
line_digits = 16

-- whether every byte is a digit
unfoldable pub all_digits : List ℕ → Bool
all_digits [] = true
all_digits (b ∷ bs) = nat_lt (digit b) 16 && all_digits bs

-- whether bs begins with a line
unfoldable pub starts_line : List ℕ → Bool
starts_line bs =
    nat_le line_length (length bs) && all_digits (take line_digits bs)
    && slice_index bs line_digits == line_feed

-- the line with which bs begins, as one number
unfoldable pub line_read : List ℕ → Option ℕ
line_read bs = when starts_line bs then Some (line_word bs) else None

abbrev pub frame_of_line : Option ℕ → Option Frame
frame_of_line (Some w) = Some (frame_of_word w)
frame_of_line None = None

-- the frame i of a text, if its line is whole; proofs/FrameLaws shows that a text that reads as
-- frames has these
unfoldable pub frame_read : List ℕ → ℕ → Option Frame
frame_read bs i =
    when nat_lt i most_lines then frame_of_line (line_read (drop (i * line_length) bs)) else None
