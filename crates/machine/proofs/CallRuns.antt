-- Calls on words are the steps of the states: from the fresh words on, each call answers as its
-- step does and leaves the words of its state. Assumes nothing.
use mathlib.Core.Path.{◌≡◌, refl, ap, ap₂, ◌∙◌}
use mathlib.Core.List.{List, [], ◌∷◌, map}
use mathlib.Core.Bool.{Bool, true, false}
use Prim.Native.Nat.{ℕ}
use lib.ListN.{length}
use borrow.Author.Tests.{eq-eqb}
use Rattle.basics.specs.Chains.{each_from, last_from}
use Rattle.language.specs.declared.frame.Frame.{Frame}
use Rattle.program.specs.Programs.{program_of}
use Rattle.machine.specs.State.{State}
use Rattle.machine.specs.Fresh.{fresh}
use Rattle.machine.specs.Turns.{StepResult, access_count}
use Rattle.machine.specs.Steps.{step}
use Rattle.machine.specs.Runs.{steps_from, state_from, steps, state_after}
use Rattle.machine.specs.Words.{pack, unpack}
use Rattle.machine.specs.Inner.Ranges.{in_range}
use Rattle.machine.specs.Calls.{CallResult, call_result, fresh_call, step_call, calls_from, words_from}
use Rattle.machine.specs.Shapes.{Shaped}
use Rattle.machine.proofs.Round.{unpack-pack}
use Rattle.machine.proofs.InShape.{shaped_in_range}
use Rattle.machine.proofs.Calls.{program_schedulers, called_in, step_packs}
use Rattle.machine.proofs.KeptShape.{FileFits, keeps_step, fresh_shaped}

-- what a call gives that is a step's
abbrev pub as_called : StepResult → CallResult
as_called r = call_result r.answer r.thread (access_count r) (pack r.state)

pub fresh_called : (fs : List Frame) (w : List ℕ) → length w ≡ 4834
    → fresh_call fs w ≡ call_result 0 0 0 (pack (fresh (program_of fs)))
unfolding fresh_call
fresh_called fs w e =
    ap (λ (b : Bool). elim b [ true ↦ call_result 0 0 0 (pack (fresh (program_of fs))) | false ↦ call_result 14 0 0 w ]) (eq-eqb (length w) 4834 e)

module _ (fs : List Frame) (F : FileFits fs (program_of fs) (program_schedulers fs)) where
  pub call_is : (s : State) (c : ℕ) → Shaped fs (program_schedulers fs) s
      → step_call fs (pack s) c ≡ as_called (step (program_of fs) s c)
  call_is s c z =
      path (ap (λ (x : CallResult). x.answer) (called_in fs (pack s) c e) ∙ ap (λ (x : State). (step (program_of fs) x c).answer) u)
      (ap (λ (x : CallResult). x.thread) (called_in fs (pack s) c e) ∙ ap (λ (x : State). (step (program_of fs) x c).thread) u)
      (ap (λ (x : CallResult). x.accesses) (called_in fs (pack s) c e) ∙ ap (λ (x : State). access_count (step (program_of fs) x c)) u)
      (step_packs fs (pack s) c e ∙ ap (λ (x : State). pack (step (program_of fs) x c).state) u)
    where
      e : in_range fs (program_schedulers fs) (pack s) ≡ true
      e = shaped_in_range fs (program_schedulers fs) s z

      u : unpack fs (program_schedulers fs) (pack s) ≡ s
      u = unpack-pack fs (program_schedulers fs) s z

      path : {a b : CallResult} → a.answer ≡ b.answer → a.thread ≡ b.thread
          → a.accesses ≡ b.accesses → a.words ≡ b.words → a ≡ b
      path p q k r = λ i. record { answer = p i; thread = q i; accesses = k i; words = r i }

  calls_from_lem : (s : State) (cs : List ℕ) → Shaped fs (program_schedulers fs) s
      → calls_from fs (pack s) cs ≡ map as_called (steps_from (program_of fs) s cs)
  unfolding each_from
  calls_from_lem s [] z = refl
  calls_from_lem s (c ∷ cs) z =
      ap₂ (λ (x : CallResult) (l : List CallResult). x ∷ l) (call_is s c z)
      (ap (λ (x : CallResult). calls_from fs x.words cs) (call_is s c z) ∙ calls_from_lem (step (program_of fs) s c).state cs (keeps_step fs (program_of fs) (program_schedulers fs) F s c z))

  -- 'States and answers are those that the calls give.'
  pub calls_are : (w cs : List ℕ) → length w ≡ 4834
      → calls_from fs (fresh_call fs w).words cs ≡ map as_called (steps (program_of fs) cs)
  calls_are w cs e =
      ap (λ (x : CallResult). calls_from fs x.words cs) (fresh_called fs w e)
      ∙ calls_from_lem (fresh (program_of fs)) cs
      (fresh_shaped fs (program_of fs) (program_schedulers fs) F)

  words_from_lem : (s : State) (cs : List ℕ) → Shaped fs (program_schedulers fs) s
      → words_from fs (pack s) cs ≡ pack (state_from (program_of fs) s cs)
  unfolding last_from
  words_from_lem s [] z = refl
  words_from_lem s (c ∷ cs) z =
      ap (λ (x : CallResult). words_from fs x.words cs) (call_is s c z)
      ∙ words_from_lem (step (program_of fs) s c).state cs
      (keeps_step fs (program_of fs) (program_schedulers fs) F s c z)

  pub words_are : (w cs : List ℕ) → length w ≡ 4834
      → words_from fs (fresh_call fs w).words cs ≡ pack (state_after (program_of fs) cs)
  words_are w cs e =
      ap (λ (x : CallResult). words_from fs x.words cs) (fresh_called fs w e)
      ∙ words_from_lem (fresh (program_of fs)) cs
      (fresh_shaped fs (program_of fs) (program_schedulers fs) F)
