-- The theorem: the computed verdict is the one that the rules give, and the only one. Assumes
-- nothing.
use Rattle.std.specs.Prelude.{Err}
use mathlib.Core.Path.{◌≡◌, refl, sym, ap, ◌∙◌}
use mathlib.Core.List.{List}
use Prim.Native.Nat.{ℕ, ◌<◌}
use lib.ListN.{length}
use Rattle.language.specs.declared.frame.Frame.{Frame}
use Rattle.language.specs.declared.refusal.Rule.TheVariants.{WrongOrder}
use Rattle.language.specs.Verdicts.{Verdict}
use Rattle.language.specs.Verdicts.{Accepted, Rejected}
use Rattle.text.specs.Reading.{Reading, frames, refused, Reads}
use Rattle.text.specs.Inner.Reading.{reading}
use Rattle.text.proofs.Readings.{reads, reads_one, some_frame}
use Rattle.program.specs.Programs.{program_of}
use Rattle.layout.specs.Verdicts.{LayoutVerdict, LaidOut}
use Rattle.layout.specs.Faults.{NoFault, LayoutSays}
use Rattle.layout.specs.Inner.Scans.{layout_of}
use Rattle.layout.specs.LaidOut.{after_layout, after_reading}
use Rattle.layout.proofs.Order.{all_trees}
use Rattle.layout.proofs.Layouts.{layout_says, layout_one}
use Rattle.layout.proofs.Parts.{placed_modules, has_main}
use Rattle.rules.specs.Broken.{RulesSay}
use Rattle.rules.specs.Inner.Checking.{rules_of}
use Rattle.rules.proofs.Modules.{rules_say, rules_only}
use Rattle.checker.specs.Verdict.{HasVerdict, verdict, VerdictComputes}

-- ---- the program of a file that passes refusals 1 to 7
module _ (fs : List Frame) (some : 0 < length fs) (fine : NoFault fs) where
  pub rules_hold : RulesSay (program_of fs) (rules_of (program_of fs))
  unfolding program_of
  rules_hold = rules_say (program_of fs) (has_main fs some (fine WrongOrder))
      (placed_modules fs (all_trees fs (fine WrongOrder)))

  rules_alone : (r : Verdict) → RulesSay (program_of fs) r → r ≡ rules_of (program_of fs)
  unfolding program_of
  rules_alone = rules_only (program_of fs) (has_main fs some (fine WrongOrder))
      (placed_modules fs (all_trees fs (fine WrongOrder)))

-- ---- the computed verdict is a verdict

-- the verdict, from what the layout says of the frames and from what the text reads as
abbrev verdict_of : List Frame → LayoutVerdict → Verdict
verdict_of fs r = after_layout (λ n j. Rejected n j) (rules_of (program_of fs)) r

abbrev verdict_read : Reading → Verdict
verdict_read r = after_reading (λ n j. Rejected n j) (λ fs. rules_of (program_of fs)) r

says_rules : {bs : List ℕ} (fs : List Frame) → Reads bs (frames fs) → NoFault fs → (r : Verdict)
    → RulesSay (program_of fs) r → HasVerdict bs r
says_rules fs h n Accepted k = HasVerdict.accepted h n k
says_rules fs h n (Err r) k = HasVerdict.rules h n k

says_layout : {bs : List ℕ} (fs : List Frame) → Reads bs (frames fs) → (r : LayoutVerdict)
    → LayoutSays fs r → HasVerdict bs (verdict_of fs r)
says_layout fs h LaidOut n = says_rules fs h n _ (rules_hold fs (some_frame h refl) n)
says_layout fs h (Err d) f = HasVerdict.layout h f

says_reading : {bs : List ℕ} (r : Reading) → Reads bs r → HasVerdict bs (verdict_read r)
says_reading (frames fs) h = says_layout fs h (layout_of fs) (layout_says fs (some_frame h refl))
says_reading (refused n j) h = HasVerdict.text h

-- ---- and any verdict is the computed one
layout_is : {bs : List ℕ} (fs : List Frame) → Reads bs (frames fs) → (r : LayoutVerdict)
    → LayoutSays fs r → layout_of fs ≡ r
layout_is fs g r h = layout_one fs (layout_of fs) r (layout_says fs (some_frame g refl)) h

-- where the text reads as fs and the layout says v
by_layout : {bs : List ℕ} {fs : List Frame} (r : Reading) → Reads bs r → Reads bs (frames fs)
    → (v : LayoutVerdict) → LayoutSays fs v → verdict_of fs v ≡ verdict_read r
by_layout {fs =
    fs} r h g v l = sym (ap (verdict_of fs) (layout_is fs g v l)) ∙ ap verdict_read (reads_one g h)

only_reading : {bs : List ℕ} (r : Reading) → Reads bs r → (other : Verdict) → HasVerdict bs other
    → other ≡ verdict_read r
only_reading r h _ (HasVerdict.text g) = ap verdict_read (reads_one g h)
only_reading r h (Err s) (HasVerdict.layout g f) =
    by_layout r h g (Rejected s.rule s.frame) f
only_reading r h (Err s) (HasVerdict.rules {fs =
    fs} g m f) = rules_alone fs (some_frame g refl) m (Rejected s.rule s.frame) f
    ∙ by_layout r h g LaidOut m
only_reading r h Accepted (HasVerdict.accepted {fs =
    fs} g m f) = rules_alone fs (some_frame g refl) m Accepted f ∙ by_layout r h g LaidOut m

pub verdict_computes : VerdictComputes
unfolding verdict
verdict_computes bs = record
    { says = says_reading (reading bs) (reads bs); only = only_reading (reading bs) (reads bs) }
