-- What a text reads as, by functions that compute, and the reader's whole answer. No reader has to
-- believe it: proofs/Readings shows that `reading` gives what `Reads` allows. Assumes nothing:
-- definitions.
use Rattle.std.specs.Prelude.{ℕ, suc, ◌-◌, ◌/◌, ◌%◌, true, false, List, [], ◌∷◌, ◌++◌, length, replicate, ◌==◌, nat_lt}
use Rattle.std.proofs.Math.Option.{Option, none, some}
use Rattle.basics.specs.If.{when◌then◌else◌}
use Rattle.language.specs.Limits.{line_length, most_lines, most_bytes}
use Rattle.language.specs.declared.refusal.Rule.TheVariants.{EmptyText, LongText, MalformedText}
use Rattle.text.specs.Frames.{words_of, text_frames}
use Rattle.text.specs.Inner.Reads.{TextRead}
use Rattle.text.specs.Inner.Reads.{Frames, Refused}
use Rattle.text.specs.Reading.{right_at, Reading, frames, refused}

-- the position of the first wrong or missing byte; the list stands from p on
unfoldable pub first_wrong : ℕ → List ℕ → Option ℕ
first_wrong p [] = when p % line_length == 0 then none else some p
first_wrong p (b ∷ bs) = elim (right_at p b) [ true ↦ first_wrong (suc p) bs | false ↦ some p ]

abbrev pub read_lines : List ℕ → Option ℕ → Reading
read_lines bs none = frames (text_frames bs)
read_lines bs (some p) = refused MalformedText (p / line_length)

unfoldable pub reading : List ℕ → Reading
reading [] = refused EmptyText 0
reading (b ∷ bs) = elim (nat_lt most_bytes (length (b ∷ bs))) [ true ↦ refused LongText 0 | false ↦ read_lines (b ∷ bs) (first_wrong 0 (b ∷ bs)) ]

-- what the reader's code answers: how many frames there are, or the refusal
abbrev pub text_read : Reading → TextRead
text_read (frames fs) = Frames (length fs)
text_read (refused n j) = Refused n j

-- the lines after which the reader stopped: all of them, or those before the one that is refused
abbrev pub lines_read : Reading → ℕ
lines_read (frames fs) = length fs
lines_read (refused n j) = j

-- the first n lines as numbers, in an array of 1,024
unfoldable pub word_array : ℕ → List ℕ → List ℕ
word_array n bs = words_of n bs ++ replicate (most_lines - n) 0

-- the reader's whole answer, and what its lent words hold after it
pub record TextWords : Type 0 where
  pub read : TextRead
  pub words : List ℕ

abbrev pub read_as : TextRead → List ℕ → TextWords
read_as r ws = record { read = r; words = ws }

unfoldable pub text_words : List ℕ → TextWords
text_words bs = read_as (text_read (reading bs)) (word_array (lines_read (reading bs)) bs)
