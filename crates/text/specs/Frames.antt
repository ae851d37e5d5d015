-- 'A frame is K (2 digits), S (2), A, B, C (4 each), all hexadecimal. Frames count from 0.'
use Rattle.std.specs.Prelude.{◌∷◌, ◌+◌, ◌*◌, ◌/◌, ◌%◌, ◌^◌}
use Rattle.basics.specs.Prelude.{List, [], map, ℕ, zero, suc, length}
use Rattle.basics.specs.Prelude.{take, drop}
use Rattle.language.specs.{Kinds.kind_of, declared.frame.Frame.Frame, Limits.line_length}
use Rattle.text.specs.Digits.{digit}

-- the number that hexadecimal digits write, after w
unfoldable pub hexadecimal : ℕ → List ℕ → ℕ
hexadecimal w [] = w
hexadecimal w (b ∷ bs) = hexadecimal (w * 16 + digit b) bs

-- the 16 digits of a line as one number
unfoldable pub line_word : List ℕ → ℕ
line_word line = hexadecimal 0 (take 16 line)

-- its first two digits are K, the next two S, and so on
unfoldable pub frame_of_word : ℕ → Frame
frame_of_word w =
    record {
      kind = kind_of (w / 16 ^ 14 % 16 ^ 2);
      s = w / 16 ^ 12 % 16 ^ 2;
      a = w / 16 ^ 8 % 16 ^ 4;
      b = w / 16 ^ 4 % 16 ^ 4;
      c = w % 16 ^ 4;
    }

-- the first n lines of a text, 17 bytes each
unfoldable pub words_of : ℕ → List ℕ → List ℕ
words_of zero bs = []
words_of (suc n) bs = line_word bs ∷ words_of n (drop line_length bs)

abbrev pub frames_of : List ℕ → List Frame
frames_of words = map frame_of_word words

-- the frames of a text, of which each line is one
unfoldable pub text_frames : List ℕ → List Frame
text_frames bs = frames_of (words_of (length bs / line_length) bs)
