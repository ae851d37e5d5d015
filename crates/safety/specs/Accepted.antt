-- Demand 3 of the check and the stepper: what holds of every text that the check accepts. The
-- theorems are in proofs/Accepted. 'Accepted: the check refuses nothing.' Acceptance is by the
-- rules, `HasVerdict`, which name no checker.
use Rattle.std.specs.Prelude.{◌∷◌, ◌++◌}
use Rattle.basics.specs.Prelude.{List, [], true, false, ℕ}
use Rattle.language.specs.declared.frame.Frame.{Frame}
use Rattle.language.specs.Verdicts.{Accepted}
use Rattle.text.specs.Frames.{text_frames}
use Rattle.program.specs.Programs.{program_of}
use Rattle.checker.specs.Verdict.{HasVerdict}
use Rattle.machine.specs.{Accesses.Access, Accesses.Signal, State.State, Turns.StepResult}
use Rattle.machine.specs.{Steps.step, Words.unpack, Inner.Ranges.in_range}
use Rattle.safety.specs.Safety.{Safe}

-- for every text that the check accepts, and every list of choices, of any length and content
abbrev pub AcceptedSafe : Type 0
AcceptedSafe =
    (bs : List ℕ) → HasVerdict bs Accepted → (cs : List ℕ) → Safe (program_of (text_frames bs)) cs

-- ---- the same about the calls: 'States and answers are those that the calls give.'

-- the state that words say
abbrev pub state_of : List Frame → List ℕ → State
state_of fs w = unpack fs (program_of fs).schedulers w

-- what was `made` under a call on words w: 'those that the stepping rules make on the state it was
-- given, those before a refusal too'; words out of range say no state
unfoldable pub under : {A : Type 0} → (StepResult → List A) → List Frame → List ℕ → ℕ → List A
under made fs w c =
    elim (in_range fs (program_of fs).schedulers w)
    [ true ↦ made (step (program_of fs) (state_of fs w) c) | false ↦ [] ]

-- under one call after the other, each on the words that `next` says the one before left
unfoldable pub along : {A : Type 0} → (StepResult → List A) → List Frame
    → (List ℕ → ℕ → List ℕ) → List ℕ → List ℕ → List A
along made fs next w [] = []
along made fs next w (c ∷ cs) = under made fs w c ++ along made fs next (next w c) cs

-- so of accesses to cells, and of those to events
abbrev pub accesses_under : List Frame → List ℕ → ℕ → List Access
accesses_under fs w c = under (λ (r : StepResult). r.accesses) fs w c

abbrev pub accesses_along : List Frame → (List ℕ → ℕ → List ℕ) → List ℕ → List ℕ → List Access
accesses_along fs next w cs = along (λ (r : StepResult). r.accesses) fs next w cs

abbrev pub signals_under : List Frame → List ℕ → ℕ → List Signal
signals_under fs w c = under (λ (r : StepResult). r.signals) fs w c

abbrev pub signals_along : List Frame → (List ℕ → ℕ → List ℕ) → List ℕ → List ℕ → List Signal
signals_along fs next w cs = along (λ (r : StepResult). r.signals) fs next w cs
