-- A run leaves what the calls leave; of an accepted text it is safe, and prints a plain line for
-- each choice used. Assumes nothing.
use Prim.Native.Nat.{ℕ, ◌≤◌}
use mathlib.Core.Path.{◌≡◌, refl, sym, ap, ap₂, ◌∙◌}
use mathlib.Core.Logic.{◌≢◌}
use mathlib.Core.List.{List, [], ◌∷◌, ◌++◌}
use mathlib.Core.Bool.{Bool, true, false}
use native.Mathlib.Omega.{arith}
use lib.Dec.{ltb, eqb}
use lib.ListN.{length, take}
use borrow.Author.Tests.{eq-eqb, le-ltb}
use Rattle.basics.specs.Members.{All}
use Rattle.basics.specs.If.{when◌then◌else◌}
use Rattle.basics.proofs.Ifs.{if_yes, and_both}
use Rattle.basics.specs.Chains.{each_from}
use Rattle.language.specs.declared.frame.Frame.{Frame}
use Rattle.language.specs.Verdicts.{Verdict}
use Rattle.language.specs.Verdicts.{Accepted, Rejected}
use Rattle.text.specs.Frames.{text_frames}
use Rattle.text.specs.Reading.{Reads, frames}
use Rattle.text.proofs.Readings.{some_frame}
use Rattle.program.specs.Programs.{Program, program_of}
use Rattle.layout.specs.Verdicts.{LayoutVerdict, LaidOut}
use Rattle.layout.specs.LaidOut.{HasLayout}
use Rattle.layout.specs.Faults.{NoFault}
use Rattle.layout.proofs.Judged.{layout_only}
use Rattle.layout.proofs.AfterLayout.{text_fine}
use Rattle.rules.specs.Inner.Checking.{rules_of}
use Rattle.checker.specs.Verdict.{HasVerdict, verdict}
use Rattle.checker.proofs.Whole.{verdict_computes}
use Rattle.machine.specs.State.{State}
use Rattle.machine.specs.Turns.{StepResult}
use Rattle.machine.specs.Steps.{step}
use Rattle.machine.specs.Fresh.{fresh}
use Rattle.machine.specs.Runs.{steps_from, steps}
use Rattle.machine.proofs.Numbers.{all_numbered}
use Rattle.stepper.specs.Answers.{done}
use Rattle.safety.proofs.Accepted.{accepted_safe}
use Rattle.text.specs.Digits.{digit_byte}
use Rattle.listing.specs.Listing.{two_digits, refusal_line, check_line, choices}
use Rattle.listing.specs.Listing.{choices_from, stops, choice_line, choice_lines, used_of}
use Rattle.listing.specs.Listing.{last_line}
use Rattle.listing.specs.Listing.{run_lines, lines_of, choices_listing}
use Rattle.runs.specs.Listings.{FinalState, final_state}
use Rattle.runs.specs.Listings.{not_run, run_of, choices_run, ListingResult, listing_of}
use Rattle.runs.specs.Listings.{whole_listing, no_listing, answer_for, buffers_fit, list_text}
use Rattle.runs.proofs.Stops.{rules_run}
use Rattle.runs.proofs.TextListings.{goes_on}
use Rattle.assured.specs.TextCalls.{Plain, words_left}
use Rattle.assured.specs.SafeListing.{PlainLines, ListingCalls, AcceptedListingSafe}
use Rattle.assured.proofs.CalledTexts.{plain_steps, left_packed, accepted_texts_safe}

-- ---- the lines

plain_lines : (p : Program) (s : State) (cs : List ℕ)
    → All (λ (r : StepResult). Plain r.answer) (steps_from p s cs)
    → PlainLines cs (choice_lines cs (steps_from p s cs))
unfolding each_from choice_lines choice_line
plain_lines p s [] h = PlainLines.none
plain_lines p s (c ∷ cs) (All.more h hs) =
    PlainLines.more _ _ _ _ _ h (plain_lines p (step p s c).state cs hs)

-- ---- the listing

module _ (p : Program) (bytes cs : List ℕ) (few : length bytes ≤ 49152) (read : choices_from 0 bytes ≡ choices cs) where
  short : ltb 49152 (length bytes) ≡ false
  short = le-ltb 49152 (length bytes) few

  after_is : (w : List ℕ) → choices_run p w bytes ≡ final_state p cs
  unfolding choices_run
  after_is w =
      ap (λ (b : Bool). elim b [ true ↦ not_run w | false ↦ run_of p w (choices_from 0 bytes) ]) short
      ∙ ap (run_of p w) read

  lines_are : choices_listing p bytes ≡ run_lines p cs
  unfolding choices_listing
  lines_are =
      ap (λ (b : Bool). elim b [ true ↦ refusal_line 2 0 | false ↦ lines_of p (choices_from 0 bytes) ]) short
      ∙ ap (lines_of p) read

-- the definition, by what 1 to 7 say
abbrev by_layout : List ℕ → List ℕ → List ℕ → List ℕ → LayoutVerdict → ListingResult
by_layout bs bytes w out x =
    when buffers_fit x w out
    then whole_listing (answer_for x true) (verdict bs) (text_frames bs) bytes w out
    else no_listing (answer_for x false) w out

-- of a text that passes 1 to 7: what 8 to 13 say of it stops no listing
module _ (bs : List ℕ) (read : Reads bs (frames (text_frames bs))) (fine : NoFault (text_frames bs)) where
  abbrev fs : List Frame
  fs = text_frames bs

  runs : stops (verdict bs) ≡ false
  unfolding verdict
  runs =
      ap stops
      (sym (text_fine (λ n j. Rejected n j) (λ gs. rules_of (program_of gs)) bs fs read fine))
      ∙ rules_run fs (some_frame read refl) fine

  module _ (bytes w out : List ℕ) (e : length w ≡ 4834) (f : length out ≡ 311309) where
    whole : list_text bs bytes w out ≡ whole_listing (done 0 0) (verdict bs) fs bytes w out
    unfolding list_text
    whole =
        ap (by_layout bs bytes w out) (sym (layout_only {v = LaidOut} (HasLayout.layout {v = LaidOut} read fine)))
        ∙ if_yes _ _ (and_both (eqb (length w) 4834) (eqb (length out) 311309)
        (eq-eqb (length w) 4834 e) (eq-eqb (length out) 311309 f))

    module _ (cs : List ℕ) (few : length bytes ≤ 49152) (is : choices_from 0 bytes ≡ choices cs) where
      pub listed_is : list_text bs bytes w out
          ≡ listing_of (done 0 0) (final_state (program_of fs) cs)
          (check_line (verdict bs) ++ run_lines (program_of fs) cs) out
      listed_is =
          whole
          ∙ ap₂ (λ (x : FinalState) (l : List ℕ). listing_of (done 0 0) x l out)
          ((goes_on (verdict bs) fs w bytes runs).0 ∙ after_is (program_of fs) bytes cs few is w)
          ((goes_on (verdict bs) fs w bytes runs).1
          ∙ ap (λ (l : List ℕ). check_line (verdict bs) ++ l) (lines_are (program_of fs) bytes cs few is))

      pub listed_calls : let used = used_of (program_of fs) cs in
          ((list_text bs bytes w out).used ≡ used)
          × ((list_text bs bytes w out).words ≡ words_left bs w (take used cs))
      unfolding final_state
      listed_calls = (
        ap (λ (r : ListingResult). r.used) listed_is,
        ap (λ (r : ListingResult). r.words) listed_is
            ∙ sym (left_packed bs read fine w (take (used_of (program_of fs) cs) cs) e),
      )

by_reading : {bs : List ℕ} {fs : List Frame} → Reads bs (frames fs) → NoFault fs
    → (bytes cs : List ℕ) → length bytes ≤ 49152 → choices_from 0 bytes ≡ choices cs
    → (w out : List ℕ) → length w ≡ 4834 → length out ≡ 311309
    → let used = used_of (program_of fs) cs in
    ((list_text bs bytes w out).used ≡ used)
    × ((list_text bs bytes w out).words ≡ words_left bs w (take used cs))
by_reading {bs} (Reads.whole a b c) h bytes cs few is w out e f =
    listed_calls bs (Reads.whole a b c) h bytes w out e f cs few is

pub listing_calls : ListingCalls
listing_calls bs fs h bytes cs few is w out e f =
    by_reading h.text h.layout bytes cs few is w out e f

run_split : (p : Program) (cs : List ℕ)
    → run_lines p cs
    ≡ choice_lines (take (used_of p cs) cs) (steps p (take (used_of p cs) cs)) ++ last_line
    (used_of p cs)
unfolding run_lines
run_split p cs = refl

pub accepted_listing_safe : AcceptedListingSafe
accepted_listing_safe bs (HasVerdict.accepted (Reads.whole a b c) h k) bytes cs few is w out e f =
    let y = HasVerdict.accepted (Reads.whole a b c) h k in
    let p = program_of (text_frames bs) in
    let used = take (used_of p cs) cs in
    record {
      safe = accepted_texts_safe bs y w used e;
      lines = choice_lines used (steps p used);
      plain = plain_lines p (fresh p) used (plain_steps (steps p used) (all_numbered p (fresh p) used) (accepted_safe bs y used).answered);
      listed =
          listed_is bs (Reads.whole a b c) h bytes w out e f cs few is
          ∙ ap₂ (λ (v : Verdict) (l : List ℕ). listing_of (done 0 0) (final_state p cs) (check_line v ++ l) out)
          (sym ((verdict_computes bs).only Accepted y)) (run_split p cs);
    }

-- ---- neither 13 nor 14 is printed

unfoldable second : List ℕ → ℕ
second [] = 0
second (a ∷ []) = 0
second (a ∷ b ∷ l) = b

pub plain_printed : {n : ℕ} → Plain n → (two_digits n ≢ two_digits 19) × (two_digits n ≢ two_digits 20)
unfolding digit_byte when◌then◌else◌ second
plain_printed Plain.done = (λ e. let z : ◌≡◌ {A = ℕ} 48 51 = ap second e in omega arith, λ e. let z : ◌≡◌ {A = ℕ} 48 52 = ap second e in omega arith)
plain_printed Plain.without_party = (λ e. let z : ◌≡◌ {A = ℕ} 70 51 = ap second e in omega arith, λ e. let z : ◌≡◌ {A = ℕ} 70 52 = ap second e in omega arith)
plain_printed Plain.nothing = (λ e. let z : ◌≡◌ {A = ℕ} 48 51 = ap second e in omega arith, λ e. let z : ◌≡◌ {A = ℕ} 48 52 = ap second e in omega arith)
plain_printed Plain.spent_cells = (λ e. let z : ◌≡◌ {A = ℕ} 49 51 = ap second e in omega arith, λ e. let z : ◌≡◌ {A = ℕ} 49 52 = ap second e in omega arith)
plain_printed Plain.spent_threads = (λ e. let z : ◌≡◌ {A = ℕ} 50 51 = ap second e in omega arith, λ e. let z : ◌≡◌ {A = ℕ} 50 52 = ap second e in omega arith)
