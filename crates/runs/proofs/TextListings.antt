-- From what 1 to 7 say of a text and the listing of its frames to the listing of the text. Assumes
-- nothing.
use Prim.Native.Nat.{ℕ}
use mathlib.Core.Path.{◌≡◌, refl, sym, ap, ap₂, ◌∙◌}
use mathlib.Core.List.{List, [], ◌++◌}
use mathlib.Core.Bool.{Bool, true, false, ◌&&◌}
use native.Mathlib.Omega.{arith}
use lib.Dec.{eqb}
use lib.ListN.{length, take, length-append, length-map}
use lib.Seq.{paste}
use borrow.Author.Tests.{eq-eqb, ne_eqb}
use Rattle.basics.specs.If.{when◌then◌else◌}
use Rattle.basics.proofs.Ifs.{if_yes, if_no, and_off}
use Rattle.language.specs.declared.frame.Frame.{Frame}
use Rattle.language.specs.Verdicts.{Verdict}
use Rattle.language.specs.Verdicts.{Rejected}
use Rattle.text.specs.Frames.{frames_of, text_frames}
use Rattle.program.specs.Programs.{program_of}
use Rattle.layout.specs.Verdicts.{LayoutVerdict, LaidOut}
use Rattle.layout.specs.Inner.Layouts.{layout_verdict, laid_as, laid_words}
use Rattle.std.specs.Prelude.{Err}
use Rattle.language.specs.declared.refusal.Refusal.{Refusal}
use Rattle.layout.specs.Inner.Laid.{Laid, Lines}
use Rattle.layout.proofs.Judged.{laid_passed, verdict_rejected, verdict_lines}
use Rattle.rules.specs.Inner.Checking.{rules_of}
use Rattle.checker.specs.Verdict.{verdict}
use Rattle.checker.specs.Inner.Frames.{FileIn}
use Rattle.checker.proofs.CheckLaws.{check_rejected, check_rules}
use Rattle.reach.proofs.Passed.{some_frame}
use Rattle.language.specs.declared.refusal.Rule.TheVariants.{WrongState}
use Rattle.stepper.specs.Answers.{Answer, done, rejected, refused}
use Rattle.stepper.specs.Inner.Files.{FileWords}
use Rattle.listing.specs.Listing.{check_line, stops, choices_listing, run_listing}
use Rattle.runs.specs.Listings.{FinalState}
use Rattle.runs.specs.Listings.{not_run, choices_run, text_run, ListingResult, listing_result}
use Rattle.runs.specs.Listings.{with_buffers, written, listing_of, whole_listing, no_listing}
use Rattle.runs.specs.Listings.{answer_for, buffers_fit, list_text}
use Rattle.runs.specs.Inner.Parts.{listed_after, listed_rejected}
use Rattle.runs.specs.declared.printing.ListingAnswer.{ListingAnswer}
use Rattle.runs.proofs.ListingLoop.{written_put, written_more}
use Rattle.runs.proofs.ListedRun.{listed_path}
use Rattle.runs.proofs.Stops.{layout_stops, rules_run}

-- ---- the check's line
module _ (v : Verdict) (fs : List Frame) (w bytes : List ℕ) where
  pub goes_on : stops v ≡ false
      → (text_run v fs w bytes ≡ choices_run (program_of fs) w bytes)
      × (run_listing v fs bytes ≡ check_line v ++ choices_listing (program_of fs) bytes)
  unfolding text_run run_listing
  goes_on h = (
    ap (λ (b : Bool). elim b [ true ↦ not_run w | false ↦ choices_run (program_of fs) w bytes ]) h,
    ap (λ (b : Bool). check_line v ++ elim b [ true ↦ [] | false ↦ choices_listing (program_of fs) bytes ]) h,
  )

  ends : stops v ≡ true
      → (text_run v fs w bytes ≡ not_run w) × (run_listing v fs bytes ≡ check_line v)
  unfolding text_run run_listing
  ends h = (
    ap (λ (b : Bool). elim b [ true ↦ not_run w | false ↦ choices_run (program_of fs) w bytes ]) h,
    ap (λ (b : Bool). check_line v ++ elim b [ true ↦ [] | false ↦ choices_listing (program_of fs) bytes ]) h,
  )

pub file_in : (frames : List ℕ) → FileWords frames → FileIn frames
file_in frames g = record { laid_out = g.laid_out; some = rw length-map at (some_frame g.laid_out); few = g.few }

module _ (frames : List ℕ) (g : FileWords frames) (v : Verdict) (e : v ≡ rules_of (program_of (frames_of frames))) (line out o : List ℕ) (a : line ≡ check_line v) (b : o ≡ paste out 0 line (length line)) where
  abbrev fs : List Frame
  fs = frames_of frames

  pub listed_frames : (w bytes u new : List ℕ) (x : ListingAnswer)
      → with_buffers x u new
      ≡ listed_after (choices_run (program_of (frames_of frames)) w bytes)
      (choices_listing (program_of (frames_of frames)) bytes) o
      → with_buffers x u new
      ≡ whole_listing (done 0 0) (rules_of (program_of (frames_of frames)))
      (frames_of frames) bytes w out
  listed_frames w bytes u new x h =
      let s = goes_on (rules_of (program_of fs)) fs w bytes (rules_run fs (some_frame g.laid_out) g.laid_out) in
      h ∙ ap (listed_after (choices_run (program_of fs) w bytes) (choices_listing (program_of fs) bytes)) start
      ∙ listed_path (let l = length-append (check_line (rules_of (program_of fs))) (choices_listing (program_of fs) bytes) in omega arith) refl refl (written_more out 0 (check_line (rules_of (program_of fs))) (choices_listing (program_of fs) bytes) (omega arith))
      ∙ ap₂ (λ (y : FinalState) (z : List ℕ). listing_of (done 0 0) y z out) (sym s.0)
      (sym s.1)
    where
      start : o ≡ written out 0 (check_line (rules_of (program_of (frames_of frames))))
      start = written_put out 0 line o b ∙ ap (written out 0) (a ∙ ap check_line e)

-- ---- the whole: by what 1 to 7 say of the text
module _ (d : Refusal) (out : List ℕ) where
  pub rejected_no_listing : (length out ≡ 311309 → ⊥)
      → no_listing (rejected d.rule d.frame) [] out ≡ listed_rejected d [] out
  unfolding listed_rejected
  rejected_no_listing f = sym (if_no _ _ (ne_eqb (length out) 311309 f))

  pub rejected_listed : (line new : List ℕ) → line ≡ check_line (Err d)
      → new ≡ paste out 0 line (length line) → length out ≡ 311309
      → listing_result (rejected d.rule d.frame) 8 0 [] new ≡ listed_rejected d [] out
  unfolding listed_rejected
  rejected_listed line new a b room =
      listed_path refl refl refl (written_put out 0 line new b ∙ ap (written out 0) a)
      ∙ sym (if_yes _ _ (eq-eqb (length out) 311309 room))

  -- the listing of a text that 1 to 7 stop says nothing of the state: whichever is lent stays
  module _ (w : List ℕ) where
    abbrev with_state : ListingResult → ListingResult
    with_state y = listing_result y.answer y.size y.used w y.out

    either : (b : Bool) (x y : ListingResult)
        → with_state (when b then x else y) ≡ (when b then with_state x else with_state y)
    unfolding when◌then◌else◌
    either true x y = refl
    either false x y = refl

    with_state_lem : (x : ListingAnswer) (new : List ℕ)
        → with_buffers x [] new ≡ listed_rejected d [] out
        → with_buffers x w new ≡ listed_rejected d w out
    unfolding listed_rejected
    with_state_lem x new k = ap with_state k ∙ either (eqb (length out) 311309) _ _

module _ (bs bytes w out : List ℕ) (l : Laid) (ws : List ℕ) (e : laid_as l ws ≡ laid_words bs) where
  -- what the definition gives with that answer where no buffer hinders it
  abbrev whole : Answer → ListingResult
  whole a = whole_listing a (verdict bs) (text_frames bs) bytes w out

  -- the definition, by what 1 to 7 say
  abbrev by_verdict : LayoutVerdict → ListingResult
  by_verdict x =
      when buffers_fit x w out then whole (answer_for x true) else no_listing (answer_for x false) w out

  by_layout : (x : LayoutVerdict) → x ≡ layout_verdict bs → by_verdict x ≡ list_text bs bytes w out
  unfolding list_text
  by_layout x z = ap by_verdict z

  module _ (d : Refusal) (z : l ≡ Err d) where
    abbrev refusal : Answer
    refusal = rejected d.rule d.frame

    is_rejected : Rejected d.rule d.frame ≡ layout_verdict bs
    is_rejected = verdict_rejected bs l ws e d z

    whole_rejected : listing_of refusal (not_run w) (check_line (Err d)) out ≡ whole refusal
    whole_rejected =
        let s = ends (Rejected d.rule d.frame) (text_frames bs) w bytes (layout_stops bs d.rule d.frame (sym is_rejected)) in
        ap₂ (λ (y : FinalState) (t : List ℕ). listing_of refusal y t out) (sym s.0) (sym s.1)
        ∙ ap (λ (x : Verdict). whole_listing refusal x (text_frames bs) bytes w out)
        (check_rejected bs l ws e d z)

    rejected_is : listed_rejected d w out ≡ list_text bs bytes w out
    unfolding listed_rejected
    rejected_is =
        ap (λ (x : ListingResult). when eqb (length out) 311309 then x else no_listing (rejected d.rule d.frame) w out) whole_rejected
        ∙ by_layout (Rejected d.rule d.frame) is_rejected

    pub list_rejected : (x : ListingAnswer) (new : List ℕ) → with_buffers x [] new ≡ listed_rejected d [] out
        → with_buffers x w new ≡ list_text bs bytes w out
    list_rejected x new k = with_state_lem d out w x new k ∙ rejected_is

  module _ (n : ℕ) (a : l ≡ Lines n) where
    frames_are : frames_of (take n ws) ≡ text_frames bs
    frames_are = (laid_passed bs l ws e n a).lines

    rules_are : rules_of (program_of (frames_of (take n ws))) ≡ verdict bs
    rules_are = check_rules bs l ws e n a _ refl

    laid_out : by_verdict LaidOut ≡ list_text bs bytes w out
    laid_out = by_layout LaidOut (verdict_lines bs l ws e n a)

    -- where nothing is printed, both buffers stay, whichever are lent
    with_both : (x : ListingAnswer)
        → with_buffers x [] [] ≡ no_listing (refused WrongState 0) [] []
        → with_buffers x w out ≡ no_listing (refused WrongState 0) w out
    with_both x k =
        ap (λ (y : ListingResult). listing_result y.answer y.size y.used w out) k

    pub list_short_state : (length w ≡ 4834 → ⊥) → (x : ListingAnswer)
        → with_buffers x [] [] ≡ no_listing (refused WrongState 0) [] []
        → with_buffers x w out ≡ list_text bs bytes w out
    list_short_state f x k =
        with_both x k
        ∙ sym (if_no _ _ (ap (λ (b : Bool). b && eqb (length out) 311309) (ne_eqb (length w) 4834 f)))
        ∙ laid_out

    pub list_short_out : (length out ≡ 311309 → ⊥) → (x : ListingAnswer) (v : List ℕ) → v ≡ w
        → with_buffers x [] [] ≡ no_listing (refused WrongState 0) [] []
        → with_buffers x v out ≡ list_text bs bytes w out
    list_short_out f x v e k =
        ap (λ (y : List ℕ). with_buffers x y out) e
        ∙ with_both x k
        ∙ sym (if_no _ _ (ap (λ (b : Bool). eqb (length w) 4834 && b) (ne_eqb (length out) 311309 f) ∙ and_off (eqb (length w) 4834)))
        ∙ laid_out

    pub list_laid_out : length w ≡ 4834 → length out ≡ 311309
        → (v o u new : List ℕ) (x : ListingAnswer) → v ≡ w → o ≡ out
        → with_buffers x u new
        ≡ whole_listing (done 0 0) (rules_of (program_of (frames_of (take n ws))))
        (frames_of (take n ws)) bytes v o
        → with_buffers x u new ≡ list_text bs bytes w out
    list_laid_out size room v o u new x e f k =
        k
        ∙ ap₂ (λ (y z : List ℕ). whole_listing (done 0 0) (rules_of (program_of (frames_of (take n ws)))) (frames_of (take n ws)) bytes y z)
        e f
        ∙ ap₂ (λ (y : Verdict) (fs : List Frame). whole_listing (done 0 0) y fs bytes w out)
        rules_are frames_are
        ∙ sym (if_yes _ _ (ap₂ (λ (b c : Bool). b && c) (eq-eqb (length w) 4834 size) (eq-eqb (length out) 311309 room)))
        ∙ laid_out
