-- Many choices in one call: the loop over them, 14, and the text's refusals. Assumes nothing.
use Prim.Native.Nat.{ℕ, suc, ◌+◌, ◌<◌, ◌≤◌}
use mathlib.Core.Path.{◌≡◌, refl, sym, ap, ap₂, ◌∙◌, subst}
use mathlib.Core.List.{List, [], ◌∷◌, ◌++◌, map, append-nil}
use mathlib.Core.Bool.{Bool, true, false, not, ◌&&◌}
use native.Mathlib.Omega.{arith}
use lib.Dec.{eqb}
use lib.ListN.{length, get_or, take, drop, set, length-set}
use lib.Seq.{take_all, take-suc-set, drop-cons, drop-length, append_snoc}
use borrow.Author.Tests.{eq-eqb, ne_eqb, not-true}
use Rattle.basics.proofs.Ifs.{if_yes, if_no}
use Rattle.basics.specs.Chains.{each_from, last_from}
use Rattle.text.specs.Frames.{frames_of}
use Rattle.program.specs.Programs.{program_of}
use Rattle.layout.specs.Inner.Layouts.{laid_as, laid_words}
use Rattle.std.specs.Prelude.{Err}
use Rattle.language.specs.declared.refusal.Refusal.{Refusal}
use Rattle.layout.specs.Inner.Laid.{Laid, Lines}
use Rattle.layout.proofs.AfterLayout.{text_refused, text_passed}
use Rattle.machine.specs.Inner.Ranges.{in_range}
use Rattle.machine.specs.Calls.{CallResult, step_call, calls_from, words_from}
use Rattle.machine.proofs.Calls.{step_packs}
use Rattle.machine.proofs.InShape.{shaped_in_range}
use Rattle.machine.proofs.KeptShape.{keeps_step}
use Rattle.language.specs.declared.refusal.Rule.{Rule}
use Rattle.stepper.specs.declared.file.File.{File}
use Rattle.stepper.specs.declared.party.StepAnswer.{StepAnswer}
use Rattle.stepper.specs.Answers.{Answer, done, refused, rejected, step_code, answer_word}
use Rattle.stepper.specs.Answers.{batch_result, steps_call, steps_text}
use Rattle.stepper.specs.Inner.Files.{StepWords, step_number, state_in, file_of, stepped_on}
use Rattle.stepper.proofs.GoodWords.{fits_in, shaped}

-- a step leaves words that are good for the next
step_good : (frames : List ℕ) (shared : ℕ) (w : List ℕ) (c : ℕ) → StepWords frames shared w
    → StepWords frames shared (step_call (frames_of frames) w c).words
step_good frames shared w c h =
    record {
      file = h.file;
      count = h.count;
      range =
          ap (in_range (frames_of frames) (program_of (frames_of frames)).schedulers)
          (step_packs (frames_of frames) w c h.range)
          ∙ shaped_in_range (frames_of frames) _ _ (keeps_step (frames_of frames) (program_of (frames_of frames)) _ (fits_in frames shared w h) (state_in frames w) c (shaped frames shared w h));
    }

-- ---- the loop: k choices are stepped and answered; those from here on give what all give from the
-- start
pub record Stepping (frames : List ℕ) (shared : ℕ) (cs old w before out : List ℕ) (k : ℕ) : Type 0 where
  pub few : k ≤ length cs
  pub long : length w ≡ length old
  pub wide : length out ≡ length before
  pub good : StepWords frames shared w
  pub words : words_from (frames_of frames) w (drop k cs) ≡ words_from (frames_of frames) old cs
  pub answers : take k out ++ map answer_word (calls_from (frames_of frames) w (drop k cs))
      ≡ map answer_word (calls_from (frames_of frames) old cs)

module _ (frames : List ℕ) (shared : ℕ) (cs old w before out : List ℕ) (k : ℕ) (r : Stepping frames shared cs old w before out k) where
  module _ (room : length before ≡ length cs) (h : k < length cs) (s : StepAnswer) (v : List ℕ) (a : ℕ) (z : stepped_on s v ≡ step_call (frames_of frames) w (get_or cs k 0)) (e : a ≡ step_code (step_number s.refusal) s.thread s.accesses) where
    abbrev next : CallResult
    next = step_call (frames_of frames) w (get_or cs k 0)

    words_next : v ≡ next.words
    words_next = ap (λ (x : CallResult). x.words) z

    one_more : k + 1 ≡ suc k
    one_more = omega arith

    rest : drop k cs ≡ get_or cs k 0 ∷ drop (k + 1) cs
    rest = drop-cons cs k 0 h ∙ ap (λ (i : ℕ). get_or cs k 0 ∷ drop i cs) (sym one_more)

    first : take (k + 1) (set out k a) ≡ take k out ++ (a ∷ [])
    first =
        ap (λ (i : ℕ). take i (set out k a)) one_more
        ∙ take-suc-set out k a (let l = r.wide in omega arith)

    words_from_lem : words_from (frames_of frames) v (drop (k + 1) cs)
        ≡ words_from (frames_of frames) w (drop k cs)
    unfolding last_from
    words_from_lem =
        ap (λ (x : List ℕ). words_from (frames_of frames) x (drop (k + 1) cs)) words_next
        ∙ ap (words_from (frames_of frames) w) (sym rest)

    calls_from_lem : a ∷ map answer_word (calls_from (frames_of frames) v (drop (k + 1) cs))
        ≡ map answer_word (calls_from (frames_of frames) w (drop k cs))
    unfolding each_from
    calls_from_lem =
        ap₂ (λ (i : ℕ) (x : List ℕ). i ∷ map answer_word (calls_from (frames_of frames) x (drop (k + 1) cs))) (e ∙ ap answer_word z) words_next
        ∙ ap (λ (x : List ℕ). map answer_word (calls_from (frames_of frames) w x)) (sym rest)

    pub stepping_more : length v ≡ length w
        → Stepping frames shared cs old v before (set out k a) (k + 1)
    stepping_more l =
        record {
          few = omega arith;
          long = l ∙ r.long;
          wide = length-set out k a ∙ r.wide;
          good = subst (StepWords frames shared) (sym words_next) (step_good frames shared w (get_or cs k 0) r.good);
          words = words_from_lem ∙ r.words;
          answers =
              ap (λ (x : List ℕ). x ++ map answer_word (calls_from (frames_of frames) v (drop (k + 1) cs))) first
              ∙ append_snoc (take k out) a
              (map answer_word (calls_from (frames_of frames) v (drop (k + 1) cs)))
              ∙ ap (λ (x : List ℕ). take k out ++ x) calls_from_lem
              ∙ r.answers;
        }

  module _ (h : length cs ≤ k) where
    none_left : drop k cs ≡ []
    none_left =
        let all : k ≡ length cs = (let f = r.few in omega arith) in
        ap (λ (i : ℕ). drop i cs) all ∙ drop-length cs

    pub stepping_words : w ≡ words_from (frames_of frames) old cs
    unfolding last_from
    stepping_words = ap (words_from (frames_of frames) w) (sym none_left) ∙ r.words

    pub stepping_answers : length before ≡ length cs
        → out ≡ map answer_word (calls_from (frames_of frames) old cs)
    unfolding each_from
    stepping_answers room =
        sym (take_all k out (let l = r.wide in omega arith))
        ∙ sym (append-nil (take k out))
        ∙ ap (λ (x : List ℕ). take k out ++ map answer_word (calls_from (frames_of frames) w x))
        (sym none_left)
        ∙ r.answers

-- ---- on frames: 14, or all choices
module _ (frames w cs out : List ℕ) where
  abbrev F : Bool
  F = in_range (frames_of frames) (program_of (frames_of frames)).schedulers w

  and_off : (b : Bool) → (b && false) ≡ false
  and_off true = refl
  and_off false = refl

  pub steps_wrong : (length out ≡ length cs → ⊥)
      → batch_result (refused Rule.WrongState 0) w out ≡ steps_call (frames_of frames) w cs out
  unfolding steps_call
  steps_wrong f = sym (if_no _ _ (ap (λ (b : Bool). b && F) (ne_eqb (length out) (length cs) f)))

  module _ (file : File) (e : file ≡ file_of (program_of (frames_of frames))) (x : Bool) (q : x ≡ in_range (frames_of frames) file.schedulers.count w) where
    range_of : x ≡ F
    range_of = q ∙ ap (λ (f : File). in_range (frames_of frames) f.schedulers.count w) e

    pub steps_out : not x ≡ true
        → batch_result (refused Rule.WrongState 0) w out ≡ steps_call (frames_of frames) w cs out
    unfolding steps_call
    steps_out h = sym (if_no _ _ (ap (λ (b : Bool). eqb (length out) (length cs) && b) (sym range_of ∙ not-true x h) ∙ and_off (eqb (length out) (length cs))))

  pub steps_in : (shared : ℕ) (v u : List ℕ) → StepWords frames shared w → length out ≡ length cs
      → v ≡ words_from (frames_of frames) w cs → u ≡ map answer_word (calls_from (frames_of frames) w cs)
      → batch_result (done 0 0) v u ≡ steps_call (frames_of frames) w cs out
  unfolding steps_call
  steps_in shared v u g l a b =
      ap₂ (batch_result (done 0 0)) a b
      ∙ sym (if_yes _ _ (ap₂ ◌&&◌ (eq-eqb (length out) (length cs) l) g.range))

-- ---- on a text
module _ (bs : List ℕ) (l : Laid) (ws : List ℕ) (e : laid_as l ws ≡ laid_words bs)
    (w cs out : List ℕ) where
  pub steps_rejected : (d : Refusal) → l ≡ Err d
      → batch_result (rejected d.rule d.frame) w out ≡ steps_text bs w cs out
  unfolding steps_text
  steps_rejected d z = text_refused _ _ bs l ws e d z

  pub steps_done : (n : ℕ) → l ≡ Lines n → (r : Answer) (u o : List ℕ)
      → batch_result r u o ≡ steps_call (frames_of (take n ws)) w cs out
      → batch_result r u o ≡ steps_text bs w cs out
  unfolding steps_text
  steps_done n a r u o z =
      z
      ∙ text_passed (λ r j. batch_result (rejected r j) w out) (λ fs. steps_call fs w cs out) bs
      l ws e n a
