-- Demand 3 of the very calls: on an accepted text `fresh` and `step` give what the calls on its
-- frames give. Assumes nothing.
use Prim.Native.Nat.{ℕ}
use native.Mathlib.Omega.{arith}
use mathlib.Core.Logic.{◌≢◌}
use mathlib.Core.Path.{◌≡◌, refl, sym, ap, ap₂, subst, ◌∙◌}
use mathlib.Core.List.{List, [], ◌∷◌, ◌++◌, map}
use lib.ListN.{length}
use Rattle.basics.specs.Members.{All}
use Rattle.basics.specs.Chains.{each_from, last_from}
use Rattle.language.specs.declared.frame.Frame.{Frame}
use Rattle.text.specs.Frames.{text_frames}
use Rattle.text.specs.Reading.{Reads, frames}
use Rattle.program.specs.Programs.{program_of}
use Rattle.layout.specs.Faults.{NoFault}
use Rattle.layout.proofs.AfterLayout.{text_fine}
use Rattle.checker.specs.Verdict.{HasVerdict}
use Rattle.machine.specs.Accesses.{Own, OwnSignal}
use Rattle.machine.specs.Turns.{StepResult, access_count}
use Rattle.machine.specs.Runs.{steps, state_after, answers}
use Rattle.machine.specs.Fresh.{fresh}
use Rattle.machine.specs.Words.{pack}
use Rattle.machine.specs.Calls.{CallResult, fresh_call, step_call, calls_from, words_from}
use Rattle.machine.proofs.CallRuns.{as_called, calls_are, fresh_called, words_are as called_words}
use Rattle.machine.proofs.Lists.{all_imply}
use Rattle.reach.proofs.Fits.{fits}
use Rattle.safety.specs.Safety.{Sound, NoPrivateInPublic, Apart}
use Rattle.safety.specs.Accepted.{state_of, under, along}
use Rattle.safety.specs.Inner.Calls.{SafeCalls}
use Rattle.safety.proofs.Accepted.{accepted_safe, accepted_calls_safe}
use Rattle.stepper.specs.Answers.{rejected, answer_number, answer_to, TextResult, text_result}
use Rattle.stepper.specs.Answers.{as_text_result, fresh_text}
use Rattle.stepper.specs.Answers.{step_text}
use Rattle.stepper.proofs.AnswerLaws.{number_back, done_0}
use Rattle.assured.specs.TextCalls.{Plain, text_calls_from, text_words_from, text_accesses_from}
use Rattle.assured.specs.TextCalls.{text_signals_from}
use Rattle.assured.specs.TextCalls.{SafeTexts, AcceptedTextsSafe, TextsNever14}
use Rattle.machine.proofs.Numbers.{StepNumber, is_0, is_15, is_16, is_17, is_18, is_19, is_20}
use Rattle.machine.proofs.Numbers.{Numbered, all_numbered}

-- ---- answers: a step's, which is neither foreign nor stuck

pub plain : {n : ℕ} → StepNumber n → Sound n → Plain n
plain is_0 s = Plain.done
plain is_15 s = Plain.without_party
plain is_16 s = Plain.nothing
plain is_17 s = Plain.spent_cells
plain is_18 s = Plain.spent_threads
plain is_19 s = absurd (s.0 refl)
plain is_20 s = absurd (s.1 refl)

pub plain_steps : (rs : List StepResult) → All Numbered rs
    → All Sound (map (λ (r : StepResult). r.answer) rs)
    → All (λ (r : StepResult). Plain r.answer) rs
plain_steps [] All.none All.none = All.none
plain_steps (r ∷ rs) (All.more h hs) (All.more k ks) = All.more (plain h k) (plain_steps rs hs ks)

-- P of each call's number, from P of each step's answer
by_number : (P : ℕ → Type 0) (rs : List StepResult)
    → All (λ (r : StepResult). P r.answer) rs
    → All (λ (r : TextResult). P (answer_number r.answer)) (map as_text_result (map as_called rs))
by_number P [] All.none = All.none
by_number P (r ∷ rs) (All.more h hs) =
    All.more (subst P (sym (number_back r.answer r.thread (access_count r))) h) (by_number P rs hs)

not_14 : {n : ℕ} → StepNumber n → n ≢ 14
not_14 is_0 e = omega arith
not_14 is_15 e = omega arith
not_14 is_16 e = omega arith
not_14 is_17 e = omega arith
not_14 is_18 e = omega arith
not_14 is_19 e = omega arith
not_14 is_20 e = omega arith

-- ---- the calls on a text that passes refusals 1 to 7 are those on its frames
module _ (bs : List ℕ) (read : Reads bs (frames (text_frames bs))) (fine : NoFault (text_frames bs)) where
  abbrev fs : List Frame
  fs = text_frames bs

  pub fresh_is : (w : List ℕ) → fresh_text bs w ≡ as_text_result (fresh_call fs w)
  unfolding fresh_text
  fresh_is w = sym (text_fine (λ r j. text_result (rejected r j) w) (λ gs. as_text_result (fresh_call gs w)) bs fs read fine)

  pub step_is : (w : List ℕ) (c : ℕ) → step_text bs w c ≡ as_text_result (step_call fs w c)
  unfolding step_text
  step_is w c = sym (text_fine (λ r j. text_result (rejected r j) w) (λ gs. as_text_result (step_call gs w c)) bs fs read fine)

  pub texts_are : (w cs : List ℕ) → text_calls_from bs w cs ≡ map as_text_result (calls_from fs w cs)
  unfolding each_from
  texts_are w [] = refl
  texts_are w (c ∷ cs) =
      ap₂ (λ (x : TextResult) (l : List TextResult). x ∷ l) (step_is w c)
      (ap (λ (x : TextResult). text_calls_from bs x.words cs) (step_is w c) ∙ texts_are (step_call fs w c).words cs)

  pub words_are : (w cs : List ℕ) → text_words_from bs w cs ≡ words_from fs w cs
  unfolding last_from
  words_are w [] = refl
  words_are w (c ∷ cs) =
      ap (λ (x : TextResult). text_words_from bs x.words cs) (step_is w c)
      ∙ words_are (step_call fs w c).words cs

  -- what was made under the calls, accesses to cells or to events
  made_are : {A : Type 0} (made : StepResult → List A) (w cs : List ℕ)
      → along made fs (λ v c. (step_text bs v c).words) w cs
      ≡ along made fs (λ v c. (step_call fs v c).words) w cs
  unfolding along
  made_are made w [] = refl
  made_are {A} made w (c ∷ cs) =
      ap (λ (x : List A). under made fs w c ++ x)
      (ap (λ (x : TextResult). along made fs (λ v d. (step_text bs v d).words) x.words cs)
      (step_is w c) ∙ made_are made (step_call fs w c).words cs)

  -- from the fresh call on
  module _ (w cs : List ℕ) (long : length w ≡ 4834) where
    first : (fresh_text bs w).words ≡ (fresh_call fs w).words
    first = ap (λ (x : TextResult). x.words) (fresh_is w)

    left : text_words_from bs (fresh_text bs w).words cs ≡ words_from fs (fresh_call fs w).words cs
    left = ap (λ (v : List ℕ). text_words_from bs v cs) first ∙ words_are (fresh_call fs w).words cs

    -- the words left are those of the state that the choices reach
    pub left_packed : text_words_from bs (fresh_text bs w).words cs
        ≡ pack (state_after (program_of fs) cs)
    left_packed = left ∙ called_words fs (fits (record { text = read; layout = fine })) w cs long

    given : text_calls_from bs (fresh_text bs w).words cs
        ≡ map as_text_result (map as_called (steps (program_of fs) cs))
    given =
        ap (λ (v : List ℕ). text_calls_from bs v cs) first ∙ texts_are (fresh_call fs w).words cs
        ∙ ap (map as_text_result)
        (calls_are fs (fits (record { text = read; layout = fine })) w cs long)

    pub numbers : (P : ℕ → Type 0) → All (λ (r : StepResult). P r.answer) (steps (program_of fs) cs)
        → All (λ (r : TextResult). P (answer_number r.answer))
        (text_calls_from bs (fresh_text bs w).words cs)
    numbers P h = subst (All (λ (r : TextResult). P (answer_number r.answer))) (sym given) (by_number P (steps (program_of fs) cs) h)

    pub texts_safe : SafeCalls fs w cs → All Sound (answers (program_of fs) cs) → SafeTexts bs w cs
    texts_safe safe sound = record {
      fresh =
          ap (λ (x : TextResult). x.answer) (fresh_is w)
          ∙ ap (λ (r : CallResult). answer_to r.answer r.thread r.accesses) (fresh_called fs w long)
          ∙ sym done_0;
      accessed =
          subst (All Own)
          (sym (ap (λ (v : List ℕ). text_accesses_from bs v cs) first
          ∙ made_are (λ (r : StepResult). r.accesses) (fresh_call fs w).words cs))
          safe.accessed;
      signalled =
          subst (All (OwnSignal (program_of fs).links))
          (sym (ap (λ (v : List ℕ). text_signals_from bs v cs) first
          ∙ made_are (λ (r : StepResult). r.signals) (fresh_call fs w).words cs))
          safe.signalled;
      answered = numbers Plain (plain_steps (steps (program_of fs) cs) (all_numbered (program_of fs) (fresh (program_of fs)) cs) sound);
      words = subst (λ (v : List ℕ). v ≡ pack (state_of fs v)) (sym left) safe.words;
      public = subst (λ (v : List ℕ). NoPrivateInPublic (state_of fs v)) (sym left) safe.public;
      apart = subst (λ (v : List ℕ). Apart (state_of fs v)) (sym left) safe.apart;
    }

pub accepted_texts_safe : AcceptedTextsSafe
accepted_texts_safe bs (HasVerdict.accepted (Reads.whole a b c) h k) w cs e =
    let v = HasVerdict.accepted (Reads.whole a b c) h k in
    texts_safe bs (Reads.whole a b c) h w cs e (accepted_calls_safe bs v w cs e)
    (accepted_safe bs v cs).answered

never_14 : {bs : List ℕ} {fs : List Frame} → Reads bs (frames fs) → NoFault fs → (w cs : List ℕ)
    → length w ≡ 4834
    → All (λ (r : TextResult). answer_number r.answer ≢ 14)
    (text_calls_from bs (fresh_text bs w).words cs)
never_14 {bs} (Reads.whole a b c) h w cs e =
    let p = program_of (text_frames bs) in
    numbers bs (Reads.whole a b c) h w cs e (λ n. n ≢ 14)
    (all_imply (λ _ k. not_14 k) (all_numbered p (fresh p) cs))

pub texts_never_14 : TextsNever14
texts_never_14 bs fs h w cs e = never_14 h.text h.layout w cs e
