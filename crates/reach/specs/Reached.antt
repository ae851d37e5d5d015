-- What holds of every file that passes refusals 1 to 7, accepted or not, with no further premise.
use Rattle.std.specs.Prelude.{◌≡◌}
use Rattle.basics.specs.Prelude.{List, [], map, true, ℕ, length}
use Rattle.language.specs.declared.frame.Frame.{Frame}
use Rattle.text.specs.Reading.{Reads, frames}
use Rattle.program.specs.Programs.{program_of, links_of}
use Rattle.layout.specs.Faults.{NoFault}
use Rattle.machine.specs.{Offsets.state_length, Turns.endless_spaces, Turns.StepResult}
use Rattle.machine.specs.{Turns.access_count, Steps.step, Steps.step_within, Runs.steps}
use Rattle.machine.specs.{Runs.state_after, Words.pack, State.State, Alone.step_alone}
use Rattle.machine.specs.{Inner.Ranges.in_range, Calls.fresh_call, Calls.calls_from}
use Rattle.machine.specs.{Calls.call_result}

-- the frames fs are those of some text, and pass refusals 4 to 7
pub record Passes (bs : List ℕ) (fs : List Frame) : Type 0 where
  pub text : Reads bs (frames fs)
  pub layout : NoFault fs

-- 'a state reached from a fresh one is never 14'
abbrev pub ReachedInRange : Type 0
ReachedInRange =
    (bs : List ℕ) (fs : List Frame) → Passes bs fs → (cs : List ℕ)
    → let p = program_of fs in in_range fs p.schedulers (pack (state_after p cs)) ≡ true

-- 'States and answers are those that the calls give': on any lent buffer of the right length, from
-- the fresh call on, each call answers as its step does, and leaves the words of its state
abbrev pub CallsAreSteps : Type 0
CallsAreSteps =
    (bs : List ℕ) (fs : List Frame) → Passes bs fs → (w cs : List ℕ) → length w ≡ state_length
    → calls_from fs (fresh_call fs w).words cs
    ≡ map
    (λ (r : StepResult). call_result r.answer r.thread (access_count r) (pack r.state))
    (steps (program_of fs) cs)

-- 'a full list, pile or variable space, which only a caller's own state can bring': in each state
-- reached from the fresh one, each choice gives what it would give if no list, continuation or
-- variable space had an end: the same answer, state, accesses and signals
abbrev pub NeverFull : Type 0
NeverFull =
    (bs : List ℕ) (fs : List Frame) → Passes bs fs → (cs : List ℕ) (c : ℕ)
    → let p = program_of fs in let s = state_after p cs in
    step p s c ≡ step_within endless_spaces p s c

-- 02, change 7: 'Files without K 04 run as they did': on every state, fresh or not, each choice
-- gives what the rules before that change give
abbrev pub AsBefore : Type 0
AsBefore =
    (fs : List Frame) → NoFault fs → links_of fs ≡ [] → (s : State) (c : ℕ)
    → step (program_of fs) s c ≡ step_alone (program_of fs) s c
