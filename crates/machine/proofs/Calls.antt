-- The calls on words: the answer is the step's or 14, a refusal leaves the words, and words in
-- range become those of the step's state. Assumes nothing.
use mathlib.Core.Path.{◌≡◌, refl, sym, ap, ◌∙◌}
use mathlib.Core.Logic.{◌≢◌}
use mathlib.Core.List.{List}
use mathlib.Core.Bool.{Bool, true, false}
use Prim.Native.Nat.{ℕ}
use lib.Dec.{eqb}
use borrow.Author.Tests.{eqb-false, eqb-true}
use Rattle.language.specs.declared.frame.Frame.{Frame}
use Rattle.program.specs.Programs.{program_of}
use Rattle.machine.specs.Turns.{StepResult}
use Rattle.machine.specs.Steps.{step}
use Rattle.machine.specs.Words.{pack, unpack}
use Rattle.machine.specs.Inner.Ranges.{in_range}
use Rattle.machine.specs.Calls.{CallResult, call_result, as_call, step_call}
use Rattle.machine.proofs.Fair.{fair}
use Rattle.machine.proofs.Valid.{packed}

-- how many schedulers the program of a file has; the step on the state that words say
abbrev pub program_schedulers : List Frame → ℕ
program_schedulers fs = (program_of fs).schedulers

abbrev pub step_of : List Frame → List ℕ → ℕ → StepResult
step_of fs w c = step (program_of fs) (unpack fs (program_schedulers fs) w) c

module _ (fs : List Frame) (w : List ℕ) (c : ℕ) where
  pub called_in : in_range fs (program_schedulers fs) w ≡ true
      → step_call fs w c ≡ as_call w (step_of fs w c)
  unfolding step_call
  called_in e =
      ap (λ (b : Bool). elim b [ true ↦ as_call w (step_of fs w c) | false ↦ call_result 14 0 0 w ]) e

  pub called_out : in_range fs (program_schedulers fs) w ≡ false → step_call fs w c ≡ call_result 14 0 0 w
  unfolding step_call
  called_out e =
      ap (λ (b : Bool). elim b [ true ↦ as_call w (step_of fs w c) | false ↦ call_result 14 0 0 w ]) e

  -- words in range become the words of the step's state, refused or not
  pub step_packs : in_range fs (program_schedulers fs) w ≡ true
      → (step_call fs w c).words ≡ pack (step_of fs w c).state
  step_packs e =
      ap (λ (x : CallResult). x.words) (called_in e) ∙ go (eqb (step_of fs w c).answer 0) refl
    where
      go : (b : Bool) → eqb (step_of fs w c).answer 0 ≡ b
          → elim b [ true ↦ pack (step_of fs w c).state | false ↦ w ] ≡ pack (step_of fs w c).state
      go true q = refl
      go false q =
          packed fs (program_schedulers fs) w e
          ∙ ap pack (sym ((fair (program_of fs) (unpack fs (program_schedulers fs) w) c).kept (eqb-false (step_of fs w c).answer 0 q)))

  -- 'No buffer changes.'
  pub refused_words : (step_call fs w c).answer ≢ 0 → (step_call fs w c).words ≡ w
  refused_words h = first (in_range fs (program_schedulers fs) w) refl
    where
      second : (b : Bool) → eqb (step_of fs w c).answer 0 ≡ b → (step_of fs w c).answer ≢ 0
          → elim b [ true ↦ pack (step_of fs w c).state | false ↦ w ] ≡ w
      second true q n = absurd (n (eqb-true (step_of fs w c).answer 0 q))
      second false q n = refl

      first : (b : Bool) → in_range fs (program_schedulers fs) w ≡ b → (step_call fs w c).words ≡ w
      first true e =
          ap (λ (x : CallResult). x.words) (called_in e)
          ∙ second (eqb (step_of fs w c).answer 0) refl
          (λ q. h (ap (λ (x : CallResult). x.answer) (called_in e) ∙ q))
      first false e = ap (λ (x : CallResult). x.words) (called_out e)
