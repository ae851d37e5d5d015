-- What the answer of `lay_into` means: where it is `Lines`, the lines kept are frames without
-- fault; its verdict is the one that `HasLayout` allows. Assumes nothing.
use mathlib.Core.Path.{◌≡◌, refl, sym, ap, subst, ◌∙◌}
use mathlib.Core.List.{List}
use Prim.Native.Nat.{ℕ, ◌≤◌, ◌<◌}
use native.Mathlib.Omega.{arith}
use lib.ListN.{length, take}
use Rattle.text.specs.Frames.{frames_of, text_frames}
use Rattle.text.specs.Reading.{Reading, frames, refused, Reads}
use Rattle.text.specs.Inner.Reading.{reading, text_read, lines_read, read_as, text_words}
use Rattle.text.specs.Inner.Reads.{TextRead}
use Rattle.text.specs.Inner.Reads.{Frames}
use Rattle.language.specs.declared.refusal.Refusal.{Refusal}
use Rattle.std.specs.Prelude.{Err}
use Rattle.text.proofs.Readings.{reads, reads_one, some_frame}
use Rattle.text.proofs.ReadLaws.{read_field}
use Rattle.layout.specs.Verdicts.{LayoutVerdict}
use Rattle.layout.specs.Verdicts.{LaidOut}
use Rattle.layout.specs.Inner.Laid.{Laid, Lines}
use Rattle.layout.specs.Faults.{NoFault}
use Rattle.layout.specs.Inner.Scans.{layout_of}
use Rattle.layout.specs.LaidOut.{HasLayout, Judged}
use Rattle.layout.specs.Inner.Layouts.{layout_read, layout_verdict, verdict_of, laid_as}
use Rattle.layout.specs.Inner.Layouts.{laid_words}
use Rattle.layout.proofs.Layouts.{layout_says, layout_one}
use Rattle.layout.proofs.Answers.{Whole, whole, frames_are, laid_refused, laid_rejected}
use Rattle.layout.proofs.Answers.{laid_lines, words_kept, verdict_is, lines_are}
use Rattle.layout.proofs.Scopes.{laid_out_no_fault}

-- the text passes 1 to 7: its frames are those of the lines kept, at most 1,024, and have no fault
pub record Passed (bs : List ℕ) (n : ℕ) (ws : List ℕ) : Type 0 where
  pub reads : reading bs ≡ frames (text_frames bs)
  pub lines : frames_of (take n ws) ≡ text_frames bs
  pub count : length (text_frames bs) ≡ n
  pub some : 0 < n
  pub few : n ≤ 1024
  pub no_fault : NoFault (text_frames bs)

laid_reads : (bs : List ℕ) → layout_verdict bs ≡ LaidOut → Whole bs (lines_read (reading bs))
unfolding layout_verdict
laid_reads bs e = go (reading bs) refl e
  where
    go : (r : Reading) → reading bs ≡ r → layout_read r ≡ LaidOut
        → Whole bs (lines_read (reading bs))
    go (refused n j) q h = absurd (let z : ◌≡◌ {A = ℕ} 0 1 = cc in omega arith)
    go (frames fs) q h = whole bs (lines_read (reading bs)) (ap text_read q ∙ ap (λ (r : Reading). Frames (lines_read r)) (sym q))

frames_laid_out : (bs : List ℕ) (n : ℕ) → Whole bs n → layout_verdict bs ≡ LaidOut
    → layout_of (text_frames bs) ≡ LaidOut
unfolding layout_verdict
frames_laid_out bs n w e = ap layout_read (sym w.is) ∙ e

pub laid_passed : (bs : List ℕ) (l : Laid) (ws : List ℕ) → laid_as l ws ≡ laid_words bs → (n : ℕ)
    → l ≡ Lines n → Passed bs n ws
laid_passed bs l ws e n z =
    let a : layout_verdict bs ≡ LaidOut = sym (verdict_is bs l ws e) ∙ ap verdict_of z in
    let w = laid_reads bs a in
    let c : lines_read (reading bs) ≡ n = lines_are bs l ws e n z in
    let k : text_read (reading bs) ≡ Frames n = ap text_read w.is ∙ ap Frames (w.count ∙ c) in
    let r : (text_words bs).read ≡ Frames n = read_field bs (text_words bs) refl ∙ k in
    record {
      reads = w.is;
      lines =
          ap (λ (x : List ℕ). frames_of (take n x)) (words_kept bs l ws e)
          ∙ frames_are bs (text_words bs).read (text_words bs).words refl n r;
      count = w.count ∙ c;
      some = (let s = w.some in omega arith);
      few = (let f = w.fits in omega arith);
      no_fault = laid_out_no_fault (text_frames bs) (let s = w.some in let d = w.count in omega arith) (frames_laid_out bs (lines_read (reading bs)) w a);
    }

-- ---- the verdict is the one that the rules allow
pub has_layout : (bs : List ℕ) → HasLayout bs (layout_verdict bs)
unfolding layout_verdict
has_layout bs = go (reading bs) (reads bs)
  where
    go : (r : Reading) → Reads bs r → HasLayout bs (layout_read r)
    go (refused n j) h = HasLayout.text h
    go (frames fs) h = HasLayout.layout h (layout_says fs (some_frame h refl))

pub layout_only : {bs : List ℕ} {v : LayoutVerdict} → HasLayout bs v → v ≡ layout_verdict bs
unfolding layout_verdict
layout_only {bs} (HasLayout.text h) = ap layout_read (reads_one h (reads bs))
layout_only {bs} {v} (HasLayout.layout {fs = fs} h s) = layout_one fs v (layout_of fs) s (layout_says fs (some_frame h refl)) ∙ ap layout_read (reads_one h (reads bs))

pub judged : (bs : List ℕ) (v : LayoutVerdict) → v ≡ layout_verdict bs → Judged bs v
judged bs v e =
    record {
      says = subst (HasLayout bs) (sym e) (has_layout bs);
      only = λ other h. layout_only h ∙ sym e;
    }

answer_judged : (bs : List ℕ) (l : Laid) (ws : List ℕ) → laid_as l ws ≡ laid_words bs
    → Judged bs (verdict_of l)
answer_judged bs l ws e = judged bs (verdict_of l) (verdict_is bs l ws e)

-- of each answer of `lay_into`
module _ (bs : List ℕ) (t : TextRead) (ws : List ℕ) (h : read_as t ws ≡ text_words bs) where
  pub judged_refused : (a : Refusal) → t ≡ Err a → Judged bs (Err a)
  judged_refused a e = answer_judged bs (Err a) ws (laid_refused bs t ws h a e)

  module _ (n : ℕ) (e : t ≡ Frames n) (v : LayoutVerdict)
      (q : v ≡ layout_of (frames_of (take n ws))) where
    pub judged_rejected : (a : Refusal) → v ≡ Err a → Judged bs (Err a)
    judged_rejected a z = answer_judged bs (Err a) ws (laid_rejected bs t ws h n e v q a z)

    pub judged_lines : v ≡ LaidOut → Judged bs LaidOut
    judged_lines z = answer_judged bs (Lines n) ws (laid_lines bs t ws h n e v q z)

-- the verdict alone
module _ (bs : List ℕ) (l : Laid) (ws : List ℕ) (e : laid_as l ws ≡ laid_words bs) where
  pub verdict_rejected : (a : Refusal) → l ≡ Err a → Err a ≡ layout_verdict bs
  verdict_rejected a z = sym (ap verdict_of z) ∙ verdict_is bs l ws e

  pub verdict_lines : (n : ℕ) → l ≡ Lines n → LaidOut ≡ layout_verdict bs
  verdict_lines n z = sym (ap verdict_of z) ∙ verdict_is bs l ws e
