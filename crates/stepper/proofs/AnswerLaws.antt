-- The answers of the public calls: the layout's refusal of the text, else what the call on the
-- text's frames gives. Assumes nothing.
use Prim.Native.Nat.{ℕ}
use mathlib.Core.Path.{◌≡◌, refl, sym, ap, ◌∙◌}
use mathlib.Core.List.{List}
use mathlib.Core.Bool.{Bool, true, false, not}
use lib.Dec.{eqb}
use lib.ListN.{length, take}
use borrow.Author.Tests.{not-true, not-false, eqb-true}
use Rattle.basics.proofs.Ifs.{if_all, yes, no}
use Rattle.language.specs.declared.frame.Frame.{Frame}
use Rattle.text.specs.Frames.{frames_of}
use Rattle.program.specs.Programs.{program_of}
use Rattle.layout.specs.Inner.Layouts.{laid_as, laid_words}
use Rattle.std.specs.Prelude.{Option, Some, None, Err}
use Rattle.language.specs.declared.refusal.Refusal.{Refusal}
use Rattle.layout.specs.Inner.Laid.{Laid, Lines}
use Rattle.layout.proofs.AfterLayout.{text_refused, text_passed}
use Rattle.checker.proofs.CheckLaws.{check_file}
use Rattle.machine.specs.Fresh.{fresh}
use Rattle.machine.specs.Words.{pack}
use Rattle.machine.specs.Inner.Ranges.{in_range}
use Rattle.machine.specs.Calls.{CallResult, fresh_call, step_call}
use Rattle.machine.proofs.Calls.{called_out}
use Rattle.states.proofs.FreshWords.{call_wrong, call_fresh}
use Rattle.language.specs.declared.refusal.Rule.{Rule}
use Rattle.stepper.specs.declared.file.File.{File}
use Rattle.stepper.specs.declared.party.StepAnswer.{StepAnswer}
use Rattle.stepper.specs.Answers.{Answer, NumberedAnswer, said, done, refused, rejected}
use Rattle.stepper.specs.Answers.{answer_number, answer_thread, answer_to, TextResult, text_result}
use Rattle.stepper.specs.Answers.{as_text_result, on_text, fresh_text, step_text}
use Rattle.stepper.specs.Inner.Files.{FileWords, StepWords, step_number, file_of, stepped_on}
use Rattle.stepper.proofs.RuleLaws.{rule_counts}
use Rattle.language.specs.Refusals.{rule_number}

-- ---- one answer
abbrev numbered_result : NumberedAnswer → List ℕ → TextResult
numbered_result a w = record { answer = a; words = w }

-- what a step's answer comes to
pub answered_done : (t k : ℕ) → said (done t k) ≡ answer_to 0 t k
unfolding answer_to
answered_done t k = yes _ refl refl

pub answered_refused : (r : Rule) (t k : ℕ) → said (refused r t) ≡ answer_to (rule_number r) t k
unfolding answer_to
answered_refused r t k = no _ (rule_counts r) refl

module _ (s : Option Rule) (t k : ℕ) where
  pub answered_none : s ≡ None → said (done t k) ≡ answer_to (step_number s) t k
  answered_none e =
      answered_done t k
      ∙ ap (λ (x : Option Rule). answer_to (step_number x) t k) (sym e)

  pub answered_some : (r : Rule) → s ≡ Some r → said (refused r t) ≡ answer_to (step_number s) t k
  answered_some r e =
      answered_refused r t k
      ∙ ap (λ (x : Option Rule). answer_to (step_number x) t k) (sym e)

pub ruleset answered_laws = (answered_none, answered_some)

module _ (n t k : ℕ) where
  -- the answer says 01's number, and the acting thread
  pub number_back : answer_number (answer_to n t k) ≡ n
  unfolding answer_to
  number_back =
      if_all (λ (a : NumberedAnswer). answer_number a ≡ n) (eqb n 0) _ _ (λ e. sym (eqb-true n 0 e))
      (λ _. refl)

  pub thread_back : answer_thread (answer_to n t k) ≡ t
  unfolding answer_to
  thread_back =
      if_all (λ (a : NumberedAnswer). answer_thread a ≡ t) (eqb n 0) _ _ (λ _. refl) (λ _. refl)

pub refused_14 : said (refused Rule.WrongState 0) ≡ answer_to 14 0 0
refused_14 = answered_refused Rule.WrongState 0 0

pub done_0 : said (done 0 0) ≡ answer_to 0 0 0
done_0 = answered_done 0 0

-- ---- a step on frames: 14, or the step on words in range
module _ (frames w : List ℕ) (file : File) (e : file ≡ file_of (program_of (frames_of frames))) where
  range_of : (x : Bool) → x ≡ in_range (frames_of frames) file.schedulers.count w
      → x ≡ in_range (frames_of frames) (program_of (frames_of frames)).schedulers w
  range_of x q = q ∙ ap (λ (f : File). in_range (frames_of frames) f.schedulers.count w) e

  pub step_out : (x : Bool) (c : ℕ) → x ≡ in_range (frames_of frames) file.schedulers.count w
      → not x ≡ true → text_result (refused Rule.WrongState 0) w ≡ as_text_result (step_call (frames_of frames) w c)
  step_out x c q h =
      ap (λ (a : NumberedAnswer). numbered_result a w) refused_14
      ∙ sym (ap as_text_result (called_out (frames_of frames) w c (sym (range_of x q) ∙ not-true x h)))

  pub step_words : (x : Bool) → x ≡ in_range (frames_of frames) file.schedulers.count w → not x ≡ false
      → FileWords frames → StepWords frames file.shared w
  step_words x q h g = record { file = g; count = ap (λ (f : File). f.shared) e; range = sym (range_of x q) ∙ not-false x h }

pub step_in : (s : StepAnswer) (r : Answer) (v : List ℕ) (k : CallResult) → stepped_on s v ≡ k
    → said r ≡ answer_to (step_number s.refusal) s.thread s.accesses → text_result r v ≡ as_text_result k
step_in s r v k e h = ap (λ (a : NumberedAnswer). numbered_result a v) h ∙ ap as_text_result e

-- ---- a text: a rejected one gives that refusal whatever the call (`text_refused`), one that is
-- laid out what the call gives (`by_call`)
module _ (bs : List ℕ) (l : Laid) (ws : List ℕ) (e : laid_as l ws ≡ laid_words bs) where
  module _ (d : Refusal) (z : l ≡ Err d) where
    pub fresh_rejected : (w : List ℕ) → text_result (rejected d.rule d.frame) w ≡ fresh_text bs w
    unfolding fresh_text
    fresh_rejected w = text_refused _ _ bs l ws e d z

    pub step_rejected : (w : List ℕ) (c : ℕ) → text_result (rejected d.rule d.frame) w ≡ step_text bs w c
    unfolding step_text
    step_rejected w c = text_refused _ _ bs l ws e d z

  module _ (n : ℕ) (a : l ≡ Lines n) where
    pub text_file : FileWords (take n ws)
    text_file =
        let g = check_file bs l ws e n a in record { laid_out = g.laid_out; few = g.few }

    pub by_call : (call : List Frame → CallResult) (w : List ℕ)
        → as_text_result (call (frames_of (take n ws))) ≡ on_text bs w call
    by_call call w =
        text_passed (λ r j. text_result (rejected r j) w) (λ fs. as_text_result (call fs)) bs
        l ws e n a

    pub fresh_wrong : (w : List ℕ) → (length w ≡ 4834 → ⊥)
        → text_result (refused Rule.WrongState 0) w ≡ fresh_text bs w
    unfolding fresh_text
    fresh_wrong w f =
        ap (λ (a : NumberedAnswer). numbered_result a w) refused_14
        ∙ ap as_text_result (call_wrong (take n ws) w f) ∙ by_call (λ fs. fresh_call fs w) w

    pub fresh_done : (w u : List ℕ) → u ≡ pack (fresh (program_of (frames_of (take n ws))))
        → length w ≡ 4834 → text_result (done 0 0) u ≡ fresh_text bs w
    unfolding fresh_text
    fresh_done w u z k =
        ap (λ (a : NumberedAnswer). numbered_result a u) done_0
        ∙ ap as_text_result (call_fresh (take n ws) w u k z) ∙ by_call (λ fs. fresh_call fs w) w

    pub step_done : (w u : List ℕ) (c : ℕ) (r : Answer)
        → text_result r u ≡ as_text_result (step_call (frames_of (take n ws)) w c)
        → text_result r u ≡ step_text bs w c
    unfolding step_text
    step_done w u c r z = z ∙ by_call (λ fs. step_call fs w c) w
