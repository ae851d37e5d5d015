-- The writer's promise: its answer by the rules and as a function, and that both are one.
use Rattle.std.specs.Prelude.{◌≡◌}
use Rattle.basics.specs.Prelude.{List, ℕ, length}
use Rattle.language.specs.Verdicts.{Accepted}
use Rattle.text.specs.Inner.Reading.{reading}
use Rattle.layout.specs.{LaidOut.HasLayout, Verdicts.LaidOut}
use Rattle.drawing.specs.{Drawings.drawing, Texts.lines_in}
use Rattle.drawing.specs.Writings.{Writing, as_writing, HasWriting}
use Rattle.drawing.specs.Inner.Finds.{writing_read}

-- ---- as a function: 1 to 3, then 4, 5, 21, 6 and 7, then 14

unfoldable pub writing : List ℕ → List ℕ → Writing
writing bs out = writing_read bs out (reading bs)

-- ---- the two are one

-- w is what the writer gives of the text bs and the lent buffer out, and nothing else is
pub record Answered (bs out : List ℕ) (w : Writing) : Type 0 where
  pub says : HasWriting bs out w
  pub only : (other : Writing) → HasWriting bs out other → other ≡ w

-- the theorem, proved in proofs/Answers
abbrev pub WritingComputes : Type 0
WritingComputes = (bs out : List ℕ) → Answered bs out (writing bs out)

-- ---- what it promises of a text that it writes; proved in proofs/Promises

-- 'lays them out as that paper wants': the output passes refusals 1 to 7; 'Read back, the lines
-- give the same tree.'
pub record WellWritten (bs out : List ℕ) : Type 0 where
  pub passes : HasLayout out LaidOut
  pub tree : drawing (lines_in out) ≡ drawing (lines_in bs)
  pub long : length out ≡ length bs

abbrev pub WritesWell : Type 0
WritesWell =
    (bs lent out : List ℕ) → HasWriting bs lent (as_writing Accepted out) → WellWritten bs out

-- 'A file that is already in order comes out byte for byte equal.'
abbrev pub KeepsOrder : Type 0
KeepsOrder =
    (bs lent : List ℕ) → HasLayout bs LaidOut → length lent ≡ length bs
    → HasWriting bs lent (as_writing Accepted bs)
