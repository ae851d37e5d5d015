-- 02, change 2: the writer 'writes the lines'.
use Rattle.std.specs.Prelude.{◌∷◌, ◌/◌, ◌%◌}
use Rattle.basics.specs.Prelude.{List, [], ℕ, zero, suc, length}
use Rattle.language.specs.Limits.{line_length}
use Rattle.text.specs.{Digits.digit_byte, Digits.line_feed, Frames.words_of}

-- the last n digits of w, then `rest`
unfoldable pub digits_onto : ℕ → ℕ → List ℕ → List ℕ
digits_onto zero w rest = rest
digits_onto (suc n) w rest = digits_onto n (w / 16) (digit_byte (w % 16) ∷ rest)

-- 'One frame a line: 16 digits from 0-9, A-F, then a line feed (byte 10).'
unfoldable pub bytes_of : List ℕ → List ℕ
bytes_of [] = []
bytes_of (w ∷ ws) = digits_onto 16 w (line_feed ∷ bytes_of ws)

-- and the lines of a text that reads as frames
abbrev pub lines_in : List ℕ → List ℕ
lines_in bs = words_of (length bs / line_length) bs
