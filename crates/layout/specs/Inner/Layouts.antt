-- Refusals 1 to 7 by functions that compute. No reader has to believe it: proofs/Judged shows
-- that `layout_verdict` gives the one v that `HasLayout` allows. Assumes nothing: definitions.
use Rattle.std.specs.Prelude.{Err}
use Rattle.std.specs.Prelude.{List, ℕ}
use Rattle.text.specs.Reading.{Reading, frames, refused}
use Rattle.text.specs.Inner.Reading.{reading, lines_read, text_words}
use Rattle.layout.specs.Verdicts.{LayoutVerdict}
use Rattle.layout.specs.Verdicts.{LaidOut, Rejected}
use Rattle.layout.specs.Inner.Laid.{Laid, Lines}
use Rattle.layout.specs.Inner.Scans.{layout_of}

-- 1 to 3, then 4 to 7
abbrev pub layout_read : Reading → LayoutVerdict
layout_read (frames fs) = layout_of fs
layout_read (refused n j) = Rejected n j

-- what the check of the layout answers; `LaidOut` where the text passes 1 to 7
unfoldable pub layout_verdict : List ℕ → LayoutVerdict
layout_verdict bs = layout_read (reading bs)

-- the answer of the code: the verdict, and beside `LaidOut` how many lines there are
abbrev pub laid_for : LayoutVerdict → ℕ → Laid
laid_for LaidOut n = Lines n
laid_for (Err r) n = Err r

abbrev pub verdict_of : Laid → LayoutVerdict
verdict_of (Lines n) = LaidOut
verdict_of (Err r) = Err r

-- with what its lent words hold: the lines that were read
pub record LaidWords : Type 0 where
  pub laid : Laid
  pub words : List ℕ

abbrev pub laid_as : Laid → List ℕ → LaidWords
laid_as l ws = record { laid = l; words = ws }

unfoldable pub laid_words : List ℕ → LaidWords
laid_words bs = laid_as (laid_for (layout_verdict bs) (lines_read (reading bs))) (text_words bs).words
