-- Refusals 1 to 7 on a text.
use Rattle.std.specs.Prelude.{Err}
use Rattle.std.specs.Prelude.{◌≡◌}
use Rattle.basics.specs.Prelude.{List, ℕ}
use Rattle.language.specs.declared.frame.Frame.{Frame}
use Rattle.language.specs.declared.refusal.Rule.{Rule}
use Rattle.text.specs.Reading.{Reading, frames, refused, Reads}
use Rattle.layout.specs.Verdicts.{LayoutVerdict}
use Rattle.layout.specs.Verdicts.{LaidOut, Rejected}
use Rattle.layout.specs.Faults.{LayoutSays}
use Rattle.layout.specs.Inner.Scans.{layout_of}

-- `HasLayout bs v`: what refusals 1 to 7 say of the text bs, by their rules; nothing is computed
-- here
pub data HasLayout : List ℕ → LayoutVerdict → Type 0 where
  text : {bs : List ℕ} {n : Rule} {j : ℕ} → Reads bs (refused n j) → HasLayout bs (Rejected n j)
  layout : {bs : List ℕ} {fs : List Frame} {v : LayoutVerdict}
      → Reads bs (frames fs) → LayoutSays fs v → HasLayout bs v

-- v is what they say of the text, and nothing else is
pub record Judged (bs : List ℕ) (v : LayoutVerdict) : Type 0 where
  pub says : HasLayout bs v
  pub only : (other : LayoutVerdict) → HasLayout bs other → other ≡ v

-- ---- 'after 1 to 7': from what a refusal of a text comes to, and what the frames of another do

abbrev pub after_layout : {A : Type 0} → (Rule → ℕ → A) → A → LayoutVerdict → A
after_layout refusal passed LaidOut = passed
after_layout refusal passed (Err r) = refusal r.rule r.frame

abbrev pub after_reading : {A : Type 0} → (Rule → ℕ → A) → (List Frame → A) → Reading → A
after_reading refusal passed (frames fs) = after_layout refusal (passed fs) (layout_of fs)
after_reading refusal passed (refused n j) = refusal n j
