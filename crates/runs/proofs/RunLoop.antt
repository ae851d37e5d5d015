-- One choice more of a run, on the words of the state that those before it reach. Assumes nothing.
use Prim.Native.Nat.{ℕ, suc, ◌+◌, ◌<◌}
use mathlib.Core.Path.{◌≡◌, refl, ap, ◌∙◌}
use mathlib.Core.List.{List, [], ◌∷◌, ◌++◌}
use native.Mathlib.Omega.{arith}
use lib.ListN.{length, get_or, take}
use lib.Seq.{take-suc}
use Rattle.basics.specs.Chains.{last_from}
use Rattle.text.specs.Frames.{frames_of}
use Rattle.program.specs.Programs.{Program, program_of}
use Rattle.machine.specs.State.{State}
use Rattle.machine.specs.Fresh.{fresh}
use Rattle.machine.specs.Steps.{step}
use Rattle.machine.specs.Runs.{state_from, state_after}
use Rattle.machine.specs.Words.{pack}
use Rattle.machine.specs.Calls.{step_call}
use Rattle.machine.proofs.KeptShape.{FileFits, reached_shaped, reached_in_range}
use Rattle.machine.proofs.CallRuns.{as_called, call_is}
use Rattle.stepper.specs.declared.file.File.{File}
use Rattle.stepper.specs.declared.party.StepAnswer.{StepAnswer}
use Rattle.stepper.specs.Inner.Files.{FileWords, StepWords, file_of, stepped_on}
use Rattle.stepper.proofs.GoodWords.{fits_words}

-- ---- one choice more
state_snoc : (p : Program) (s : State) (xs : List ℕ) (c : ℕ)
    → state_from p s (xs ++ (c ∷ [])) ≡ (step p (state_from p s xs) c).state
unfolding last_from
state_snoc p s [] c = refl
state_snoc p s (x ∷ xs) c = state_snoc p (step p s x).state xs c

pub next_choice : (cs : List ℕ) (k : ℕ) → k < length cs
    → take (k + 1) cs ≡ take k cs ++ (get_or cs k 0 ∷ [])
next_choice cs k h =
    let z : k + 1 ≡ suc k = omega arith in ap (λ (i : ℕ). take i cs) z ∙ take-suc cs k 0 h

pub state_next : (p : Program) (cs : List ℕ) (k : ℕ) → k < length cs
    → state_after p (take (k + 1) cs) ≡ (step p (state_after p (take k cs)) (get_or cs k 0)).state
state_next p cs k h =
    ap (state_after p) (next_choice cs k h) ∙ state_snoc p (fresh p) (take k cs) (get_or cs k 0)

-- ---- a state that was reached, on its words
module _ (frames : List ℕ) (file : File) (cs w : List ℕ) (g : FileWords frames) (e : file ≡ file_of (program_of (frames_of frames))) (q : w ≡ pack (state_after (program_of (frames_of frames)) cs)) where
  abbrev P : Program
  P = program_of (frames_of frames)

  fits : FileFits (frames_of frames) (program_of (frames_of frames)) (program_of (frames_of frames)).schedulers
  fits = fits_words frames g

  pub reached_words : StepWords frames file.shared w
  reached_words =
      record {
        file = g;
        count = ap (λ (f : File). f.shared) e;
        range = rw q (reached_in_range (frames_of frames) P P.schedulers fits cs);
      }

  -- the call is the step of that state
  pub reached_call : (s : StepAnswer) (v : List ℕ) (c : ℕ)
      → stepped_on s v ≡ step_call (frames_of frames) w c
      → stepped_on s v
      ≡ as_called
      (step (program_of (frames_of frames)) (state_after (program_of (frames_of frames)) cs) c)
  reached_call s v c z =
      z ∙ ap (λ (x : List ℕ). step_call (frames_of frames) x c) q
      ∙ call_is (frames_of frames) fits (state_after P cs) c
      (reached_shaped (frames_of frames) P P.schedulers fits cs)
