-- The check's promise: the verdict on a text, by the rules and as a function, and that both are
-- one.
use Rattle.std.specs.Prelude.{◌≡◌}
use Rattle.basics.specs.Prelude.{List, ℕ}
use Rattle.language.specs.declared.frame.Frame.{Frame}
use Rattle.language.specs.declared.refusal.Rule.{Rule}
use Rattle.language.specs.Verdicts.{Verdict}
use Rattle.language.specs.Verdicts.{Accepted, Rejected}
use Rattle.text.specs.{Reading.frames, Reading.refused, Reading.Reads, Inner.Reading.reading}
use Rattle.program.specs.Programs.{program_of}
use Rattle.layout.specs.{Faults.NoFault, Faults.FirstFault, LaidOut.after_reading}
use Rattle.rules.specs.{Rules.Keeps, Broken.FirstBroken, Inner.Checking.rules_of}

-- `HasVerdict bs v`: what documents 01 and 02 say of the text bs. No checker is named here: 'The
-- check's promise is the rules themselves, written without the checker.'
pub data HasVerdict : List ℕ → Verdict → Type 0 where
  -- 1 to 3
  text : {bs : List ℕ} {n : Rule} {j : ℕ}
      → Reads bs (refused n j)
      → HasVerdict bs (Rejected n j)
  -- 4 to 7
  layout : {bs : List ℕ} {fs : List Frame} {n : Rule} {j : ℕ}
      → Reads bs (frames fs) → FirstFault fs n j
      → HasVerdict bs (Rejected n j)
  -- 8 to 13
  rules : {bs : List ℕ} {fs : List Frame} {n : Rule} {j : ℕ}
      → Reads bs (frames fs) → NoFault fs → FirstBroken (program_of fs) n j
      → HasVerdict bs (Rejected n j)
  -- 'Accepted: the check refuses nothing.'
  accepted : {bs : List ℕ} {fs : List Frame}
      → Reads bs (frames fs) → NoFault fs → Keeps (program_of fs)
      → HasVerdict bs Accepted

-- ---- as a function: 1 to 3, then 4 to 7, then 8 to 13

unfoldable pub verdict : List ℕ → Verdict
verdict bs = after_reading (λ n j. Rejected n j) (λ fs. rules_of (program_of fs)) (reading bs)

-- ---- the two are one

-- v is the text's verdict, and the only one
pub record Checked (bs : List ℕ) (v : Verdict) : Type 0 where
  pub says : HasVerdict bs v
  pub only : (other : Verdict) → HasVerdict bs other → other ≡ v

-- the theorem, proved in proofs/Whole
abbrev pub VerdictComputes : Type 0
VerdictComputes = (bs : List ℕ) → Checked bs (verdict bs)
