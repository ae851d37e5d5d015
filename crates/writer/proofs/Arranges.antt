-- The writer's answer, from what its functions find. Assumes nothing.
use Rattle.std.specs.Prelude.{Err}
use mathlib.Core.Path.{◌≡◌, refl, sym, ap, ap₂, subst, ◌∙◌}
use mathlib.Core.List.{List}
use Prim.Native.Nat.{ℕ, ◌*◌, ◌/◌}
use native.Mathlib.Omega.{arith}
use lib.Dec.{eqb}
use lib.ListN.{length, take}
use borrow.Author.Tests.{eq-eqb, ne_eqb}
use Rattle.basics.specs.If.{when◌then◌else◌}
use Rattle.basics.proofs.Ifs.{yes, no}
use Rattle.language.specs.declared.refusal.Rule.{Rule}
use Rattle.language.specs.declared.refusal.Rule.TheVariants.{WrongState}
use Rattle.language.specs.Verdicts.{Verdict}
use Rattle.language.specs.Verdicts.{Accepted, Rejected}
use Rattle.text.specs.Frames.{words_of, frames_of, text_frames}
use Rattle.text.specs.Reading.{Reading, frames, refused, Reads}
use Rattle.text.specs.Inner.Reading.{reading, text_read, read_as, text_words}
use Rattle.text.specs.Inner.Reads.{TextRead}
use Rattle.text.specs.Inner.Reads.{Frames}
use Rattle.language.specs.declared.refusal.Refusal.{Refusal}
use Rattle.language.proofs.VerdictLaws.{rule_in, frame_in}
use Rattle.text.proofs.Readings.{reads}
use Rattle.text.proofs.ReadLaws.{length_frames, length_words, read_field}
use Rattle.layout.proofs.Answers.{Whole, whole, lines_taken}
use Rattle.drawing.specs.Drawings.{drawing, laid_out}
use Rattle.drawing.specs.Texts.{bytes_of, lines_in}
use Rattle.drawing.specs.Writings.{Writing, as_writing, Writable, rewritten}
use Rattle.drawing.specs.Answers.{writing, Answered}
use Rattle.drawing.specs.Inner.Finds.{drawing_verdict, writing_after, writing_of, writing_read}
use Rattle.drawing.proofs.Promises.{lines_of}
use Rattle.drawing.proofs.Answers.{accepted_writable, writing_computes}
use Rattle.writer.specs.Inner.Placing.{arranged_after, arranged}

-- ---- of lines
module _ (ws out : List ℕ) (v : Verdict) (ev : v ≡ drawing_verdict (frames_of ws)) where
  pub refused_lines : (a : Refusal) → v ≡ Err a → as_writing (Err a) out ≡ arranged ws out
  unfolding arranged
  refused_lines a e = ap (arranged_after ws out) (sym e ∙ ev)

  module _ (e : v ≡ Accepted) where
    pub writable_lines : Writable (frames_of ws)
    writable_lines = accepted_writable (frames_of ws) (sym ev ∙ e)

    pub unfit_lines : (length out ≡ 17 * length ws → ⊥)
        → as_writing (Rejected WrongState 0) out ≡ arranged ws out
    unfolding arranged
    unfit_lines d =
        no (as_writing Accepted (bytes_of (laid_out (drawing ws))))
        (ne_eqb (length out) (17 * length ws) d) refl
        ∙ ap (arranged_after ws out) (sym e ∙ ev)

    pub laid_lines : (new : List ℕ) → new ≡ bytes_of (laid_out (drawing ws))
        → length out ≡ 17 * length ws → as_writing Accepted new ≡ arranged ws out
    unfolding arranged
    laid_lines new w l =
        ap (as_writing Accepted) w
        ∙ yes (as_writing (Rejected WrongState 0) out) (eq-eqb (length out) (17 * length ws) l) refl
        ∙ ap (arranged_after ws out) (sym e ∙ ev)

-- ---- of a text: t is what the reader answered, ws what the lent words hold
module _ (bs out : List ℕ) (t : TextRead) (ws : List ℕ) (h : read_as t ws ≡ text_words bs) where
  pub refused_text : (a : Refusal) → t ≡ Err a → as_writing (Err a) out ≡ writing bs out
  unfolding writing
  refused_text a e = go (reading bs) (sym (read_field bs (read_as t ws) h) ∙ e)
    where
      go : (r : Reading) → text_read r ≡ Err a → as_writing (Err a) out ≡ writing_read bs out r
      go (frames fs) q = absurd (let z : ◌≡◌ {A = ℕ} 0 1 = cc in omega arith)
      go (refused m k) q =
          ap₂ (λ (x : Rule) (y : ℕ). as_writing (Rejected x y) out)
          (sym (ap rule_in q)) (sym (ap frame_in q))

  module _ (n : ℕ) (e : t ≡ Frames n) where
    w : Whole bs n
    w = whole bs n (sym (read_field bs (read_as t ws) h) ∙ e)

    lines_are : take n ws ≡ lines_in bs
    lines_are =
        lines_taken bs t ws h n e ∙ ap (λ (k : ℕ). words_of k bs) (sym w.count ∙ length_frames bs)

    size : 17 * length (lines_in bs) ≡ length bs
    size =
        let r = (lines_of (subst (Reads bs) w.is (reads bs))).right.size in
        let l = length_words (length bs / 17) bs in
        omega arith

    same_after : (v : Verdict) → arranged_after (lines_in bs) out v ≡ writing_after bs out v
    unfolding rewritten
    same_after Accepted =
        ap
        (λ (k : ℕ). when eqb (length out) k
        then as_writing Accepted (rewritten bs)
        else as_writing (Rejected WrongState 0) out)
        size
    same_after (Err r) = refl

    same : arranged (lines_in bs) out ≡ writing bs out
    unfolding arranged writing writing_of text_frames
    same =
        same_after (drawing_verdict (frames_of (lines_in bs)))
        ∙ ap (writing_read bs out) (sym w.is)

    pub whole_text : (v : Verdict) (new : List ℕ) → as_writing v new ≡ arranged (take n ws) out
        → as_writing v new ≡ writing bs out
    whole_text v new a = a ∙ ap (λ (l : List ℕ). arranged l out) lines_are ∙ same

-- the answer that is computed is the one that the rules allow
answered : (bs out : List ℕ) (a : Writing) → a ≡ writing bs out → Answered bs out a
answered bs out a e = subst (Answered bs out) (sym e) (writing_computes bs out)

module _ (bs out : List ℕ) (t : TextRead) (ws : List ℕ) (h : read_as t ws ≡ text_words bs) where
  pub refused_answered : (a : Refusal) → t ≡ Err a → Answered bs out (as_writing (Err a) out)
  refused_answered a e = answered bs out (as_writing (Err a) out) (refused_text bs out t ws h a e)

  pub whole_answered : (n : ℕ) → t ≡ Frames n → (v : Verdict) (new : List ℕ)
      → as_writing v new ≡ arranged (take n ws) out → Answered bs out (as_writing v new)
  whole_answered n e v new a =
      answered bs out (as_writing v new) (whole_text bs out t ws h n e v new a)
