-- A list of choices: each is put to the state that the one before returned or left.
use Rattle.basics.specs.Prelude.{List, map, flat_map, ℕ}
use Rattle.basics.specs.Chains.{each_from, last_from}
use Rattle.program.specs.Programs.{Program}
use Rattle.machine.specs.{Accesses.Access, Accesses.Signal, State.State, Fresh.fresh}
use Rattle.machine.specs.{Turns.StepResult}
use Rattle.machine.specs.{Steps.step}

-- what each choice gives, in order
abbrev pub steps_from : Program → State → List ℕ → List StepResult
steps_from p s cs = each_from (step p) (λ (r : StepResult). r.state) s cs

-- the state after them
abbrev pub state_from : Program → State → List ℕ → State
state_from p s cs = last_from (step p) (λ (r : StepResult). r.state) s cs

abbrev pub steps : Program → List ℕ → List StepResult
steps p cs = steps_from p (fresh p) cs

abbrev pub state_after : Program → List ℕ → State
state_after p cs = state_from p (fresh p) cs

abbrev pub answers : Program → List ℕ → List ℕ
answers p cs = map (λ (r : StepResult). r.answer) (steps p cs)

-- the accesses of all of them, in order: 'those before a refusal too'
abbrev pub accesses_of : Program → List ℕ → List Access
accesses_of p cs = flat_map (λ (r : StepResult). r.accesses) (steps p cs)

-- and those to events
abbrev pub signals_of : Program → List ℕ → List Signal
signals_of p cs = flat_map (λ (r : StepResult). r.signals) (steps p cs)
