-- What a text comes to 'after 1 to 7', from the answer of `lay_into` or from the rules. Assumes
-- nothing.
use mathlib.Core.Path.{◌≡◌, refl, sym, ap, ◌∙◌}
use mathlib.Core.List.{List}
use Prim.Native.Nat.{ℕ}
use native.Mathlib.Omega.{arith}
use lib.ListN.{take}
use Rattle.language.specs.declared.refusal.Rule.{Rule}
use Rattle.language.specs.declared.frame.Frame.{Frame}
use Rattle.text.specs.Frames.{frames_of, text_frames}
use Rattle.text.specs.Reading.{Reading, frames, refused, Reads}
use Rattle.text.specs.Inner.Reading.{reading}
use Rattle.text.proofs.Readings.{reads, reads_one, some_frame}
use Rattle.language.specs.declared.refusal.Refusal.{Refusal}
use Rattle.std.specs.Prelude.{Err}
use Rattle.layout.specs.Verdicts.{LayoutVerdict, Rejected}
use Rattle.layout.specs.Inner.Laid.{Laid, Lines}
use Rattle.layout.specs.Faults.{NoFault}
use Rattle.layout.specs.Inner.Scans.{layout_of}
use Rattle.layout.specs.Inner.Layouts.{layout_read, layout_verdict, laid_as, laid_words}
use Rattle.layout.specs.LaidOut.{after_layout, after_reading}
use Rattle.layout.proofs.Scopes.{no_fault_laid_out}
use Rattle.layout.proofs.Judged.{laid_passed, verdict_rejected}

module _ {A : Type 0} (refusal : Rule → ℕ → A) (passed : List Frame → A) (bs : List ℕ) where
  -- by the rules: the text reads as these frames, and they have no fault
  pub text_fine : (fs : List Frame) → Reads bs (frames fs) → NoFault fs
      → passed fs ≡ after_reading refusal passed (reading bs)
  text_fine fs h f =
      sym
      (ap (after_reading refusal passed) (reads_one (reads bs) h)
      ∙ ap (after_layout refusal (passed fs)) (no_fault_laid_out fs (some_frame h refl) f))

  module _ (l : Laid) (ws : List ℕ) (e : laid_as l ws ≡ laid_words bs) where
    by_reading : (r : Reading) → reading bs ≡ r → (a : Refusal) → l ≡ Err a
        → refusal a.rule a.frame ≡ after_reading refusal passed r
    unfolding layout_verdict
    by_reading (refused m k) q a z =
        let y : ◌≡◌ {A = LayoutVerdict} (Err a) (Rejected m k) = verdict_rejected bs l ws e a z ∙ ap layout_read q in
        ap (after_layout refusal (passed (text_frames bs))) y
    by_reading (frames fs) q a z =
        let y : Err a ≡ layout_of fs = verdict_rejected bs l ws e a z ∙ ap layout_read q in
        ap (after_layout refusal (passed fs)) y

    pub text_refused : (a : Refusal) → l ≡ Err a
        → refusal a.rule a.frame ≡ after_reading refusal passed (reading bs)
    text_refused a z = by_reading (reading bs) refl a z

    pub text_passed : (n : ℕ) → l ≡ Lines n
        → passed (frames_of (take n ws)) ≡ after_reading refusal passed (reading bs)
    text_passed n z =
        let r = laid_passed bs l ws e n z in
        ap passed r.lines
        ∙ sym
        (ap (after_reading refusal passed) r.reads
        ∙ ap (after_layout refusal (passed (text_frames bs))) (no_fault_laid_out (text_frames bs) (let c = r.count in let s = r.some in omega arith) r.no_fault))
