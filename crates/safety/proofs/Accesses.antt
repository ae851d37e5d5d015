-- Of demand 3, `accessed` and `signalled` follow from `answered`: where no choice is foreign, every
-- access is to a cell of the acting thread or of its scheduler, and every one to an event is to one
-- of its scheduler or of one in step with it. Assumes nothing.
use mathlib.Core.Logic.{◌≢◌}
use mathlib.Core.List.{List, [], ◌∷◌, map, flat_map}
use Prim.Native.Nat.{ℕ}
use Rattle.basics.specs.Members.{All, none, more}
use Rattle.basics.specs.Chains.{each_from}
use Rattle.program.specs.Programs.{Program}
use Rattle.machine.specs.Accesses.{Own, OwnSignal}
use Rattle.machine.specs.State.{State}
use Rattle.machine.specs.Fresh.{fresh}
use Rattle.machine.specs.Turns.{StepResult}
use Rattle.machine.specs.Steps.{step}
use Rattle.machine.specs.Runs.{steps_from, answers, accesses_of, signals_of}
use Rattle.machine.proofs.Lists.{all_append}
use Rattle.machine.proofs.Fair.{fair}
use Rattle.safety.specs.Safety.{Sound}

-- what holds of all that is `made` in a choice which is not foreign
all_from : {A : Type 0} (made : StepResult → List A) (Q : A → Type 0) (p : Program)
    → ((s : State) (c : ℕ) → (step p s c).answer ≢ 19 → All Q (made (step p s c)))
    → (s : State) (cs : List ℕ)
    → All Sound (map (λ (r : StepResult). r.answer) (steps_from p s cs))
    → All Q (flat_map made (steps_from p s cs))
unfolding each_from flat_map
all_from made Q p f s [] h = none
all_from made Q p f s (c ∷ cs) (more a h) =
    all_append (f s c a.0) (all_from made Q p f (step p s c).state cs h)

pub accessed : (p : Program) (cs : List ℕ) → All Sound (answers p cs) → All Own (accesses_of p cs)
accessed p cs h =
    all_from (λ (r : StepResult). r.accesses) Own p (λ s c. (fair p s c).own) (fresh p) cs h

pub signalled : (p : Program) (cs : List ℕ) → All Sound (answers p cs)
    → All (OwnSignal p.links) (signals_of p cs)
signalled p cs h =
    all_from (λ (r : StepResult). r.signals) (OwnSignal p.links) p (λ s c. (fair p s c).heard)
    (fresh p) cs h
