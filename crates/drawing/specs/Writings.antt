-- 02, change 2: what the writer makes of a text, its lines laid out or a refusal, by the rules.
-- Nothing is computed here.
use Rattle.std.specs.Prelude.{◌≤◌, ◌≡◌}
use Rattle.basics.specs.Prelude.{List, ℕ, length}
use Rattle.language.specs.{declared.frame.Frame.Frame, Verdicts.Verdict}
use Rattle.language.specs.Verdicts.{Accepted, Rejected}
use Rattle.language.specs.Refusals.{rule_number, wrong_field}
use Rattle.language.specs.declared.refusal.{Rule.Rule, Rule.TheVariants.WrongTree}
use Rattle.language.specs.declared.refusal.Rule.TheVariants.{WrongOrder, TooDeep, WrongState}
use Rattle.text.specs.Reading.{Reads, frames, refused}
use Rattle.layout.specs.Faults.{Fault, FirstFault}
use Rattle.drawing.specs.Drawings.{drawing, laid_out}
use Rattle.drawing.specs.Texts.{lines_in, bytes_of}
use Rattle.drawing.specs.TreeFaults.{TreeFault, ShapeFault}

-- what a call gives: its verdict, `Accepted` where the lines are written, and the lent buffer then
pub record Writing : Type 0 where
  pub verdict : Verdict
  pub out : List ℕ

abbrev pub as_writing : Verdict → List ℕ → Writing
as_writing v out = record { verdict = v; out = out }

-- 'named at the lowest frame': the lowest of which P holds
pub record LowestAt (P : ℕ → Type 0) (j : ℕ) : Type 0 where
  pub holds : P j
  pub least : (k : ℕ) → P k → j ≤ k

-- P holds of no frame
abbrev pub NoneAt : (ℕ → Type 0) → Type 0
NoneAt P = (j : ℕ) → P j → ⊥

-- nothing of 4 and 5
abbrev pub NoEarly : List Frame → Type 0
NoEarly fs = (n : Rule) (j : ℕ) → rule_number n ≤ wrong_field → Fault fs n j → ⊥

-- the text's lines, 'as that paper wants', as bytes
unfoldable pub rewritten : List ℕ → List ℕ
rewritten bs = bytes_of (laid_out (drawing (lines_in bs)))

-- the frames pass: nothing of 4, 5, 21, 6 and 7
pub record Writable (fs : List Frame) : Type 0 where
  pub early : NoEarly fs
  pub trees : NoneAt (TreeFault fs)
  pub shaped : NoneAt (ShapeFault fs)
  pub shallow : NoneAt (Fault fs TooDeep)

-- `HasWriting bs out w`: of the text bs, lent the buffer out, the writer gives w. 'Turned away: 1
-- to 7, but none of 8 to 13; 21 .., after 5 and before 6; an output not as long as the text is 14,
-- tested last.' 1 to 5 and 7 are the check's own. A refusal leaves the buffer as it was
pub data HasWriting (bs out : List ℕ) : Writing → Type 0 where
  text : {m : Rule} {j : ℕ}
      → Reads bs (refused m j) → HasWriting bs out (as_writing (Rejected m j) out)
  early : {fs : List Frame} {m : Rule} {j : ℕ}
      → Reads bs (frames fs) → FirstFault fs m j → rule_number m ≤ wrong_field
      → HasWriting bs out (as_writing (Rejected m j) out)
  tree : {fs : List Frame} {j : ℕ}
      → Reads bs (frames fs) → NoEarly fs → LowestAt (TreeFault fs) j
      → HasWriting bs out (as_writing (Rejected WrongTree j) out)
  shape : {fs : List Frame} {j : ℕ}
      → Reads bs (frames fs) → NoEarly fs → NoneAt (TreeFault fs) → LowestAt (ShapeFault fs) j
      → HasWriting bs out (as_writing (Rejected WrongOrder j) out)
  depth : {fs : List Frame} {j : ℕ}
      → Reads bs (frames fs) → NoEarly fs → NoneAt (TreeFault fs) → NoneAt (ShapeFault fs)
      → LowestAt (Fault fs TooDeep) j
      → HasWriting bs out (as_writing (Rejected TooDeep j) out)
  unfit : {fs : List Frame}
      → Reads bs (frames fs) → Writable fs → (length out ≡ length bs → ⊥)
      → HasWriting bs out (as_writing (Rejected WrongState 0) out)
  lines : {fs : List Frame}
      → Reads bs (frames fs) → Writable fs → length out ≡ length bs
      → HasWriting bs out (as_writing Accepted (rewritten bs))
