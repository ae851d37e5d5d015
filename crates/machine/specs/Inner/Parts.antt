-- The parts of a step in the spaces that a state has, for the laws that speak of one. Assumes
-- nothing: definitions.
use Rattle.std.specs.Prelude.{List, ℕ}
use Rattle.program.specs.Programs.{Program}
use Rattle.machine.specs.State.{State, Item}
use Rattle.machine.specs.Turns.{StepResult, state_spaces, Turn}
use Rattle.machine.specs.Steps.{turn_within, step_items_within, step_thread_within}
use Rattle.machine.specs.Steps.{step_scheduler_within}

abbrev pub turn : Program → State → ℕ → ℕ → List Item → Turn
turn p s c t items = turn_within state_spaces p s c t items

abbrev pub step_items : Program → State → ℕ → ℕ → List Item → StepResult
step_items p s c t items = step_items_within state_spaces p s c t items

abbrev pub step_thread : Program → State → ℕ → ℕ → StepResult
step_thread p s c t = step_thread_within state_spaces p s c t

abbrev pub step_scheduler : Program → State → ℕ → List ℕ → StepResult
step_scheduler p s c ts = step_scheduler_within state_spaces p s c ts
