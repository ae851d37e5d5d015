-- One choice: what it answers, and the state and the accesses it makes.
use Rattle.std.specs.Prelude.{◌∷◌, ◌&&◌, ◌-◌}
use Rattle.basics.specs.Prelude.{List, [], Bool, true, false, not, ℕ, leb, eqb}
use Rattle.basics.specs.Prelude.{length, when◌then◌else◌, any}
use Rattle.language.specs.{Places.private, Refusals.no_party, Refusals.nothing_ready, Groups.in_step}
use Rattle.program.specs.Programs.{Program}
use Rattle.machine.specs.Offsets.{thread_owner_from}
use Rattle.machine.specs.State.{State, Item, run, back, drop, thread_at, scheduler_at}
use Rattle.machine.specs.State.{with_scheduler, with_present, thread_owner}
use Rattle.machine.specs.Waits.{ready_threads, still_waiting}
use Rattle.machine.specs.Inner.Families.{is_ready}
use Rattle.machine.specs.Groups.{members}
use Rattle.machine.specs.Turns.{StepResult, Spaces, state_spaces, Turn, is_scheduler_of}
use Rattle.machine.specs.Statements.{ends, drops, goes_back, step_statement}

-- the turn of thread t at choice c, with that continuation left, in a state of the spaces z
abbrev pub turn_within : Spaces → Program → State → ℕ → ℕ → List Item → Turn
turn_within z p s c t items =
    let x = thread_at s t in
    record {
      program = p;
      state = s;
      choice = c;
      thread = t;
      self = record {
        place = x.place;
        continuation = items;
        variables = x.variables;
        starter = x.starter;
        ended = x.ended;
      };
      cells = s.cells;
      accesses = [];
      signals = [];
      spaces = z;
    }

-- 'A thread's step takes its top pile item'
abbrev pub step_items_within : Spaces → Program → State → ℕ → ℕ → List Item → StepResult
step_items_within z p s c t [] = ends (turn_within z p s c t [])
step_items_within z p s c t (run x ∷ items) = step_statement (turn_within z p s c t items) x
step_items_within z p s c t (back q ∷ items) = goes_back (turn_within z p s c t items) q
step_items_within z p s c t (drop ∷ items) = drops (turn_within z p s c t items)

unfoldable pub step_thread_within : Spaces → Program → State → ℕ → ℕ → StepResult
step_thread_within z p s c t = step_items_within z p s c t (thread_at s t).continuation

-- an answer in which no thread acts
abbrev pub nobody : ℕ → State → StepResult
nobody n s = record { answer = n; thread = 0; state = s; accesses = []; signals = [] }

-- 02, change 5: 'An event is present .. to the end of its scheduler's instant', change 7: 'until
-- the group's instant ends': of the events, which have the owners os, those whose owner passes the
-- test no longer are
unfoldable pub without_events_of : (ℕ → Bool) → List ℕ → List Bool → List Bool
without_events_of test [] bs = bs
without_events_of test (o ∷ os) [] = []
without_events_of test (o ∷ os) (b ∷ bs) = (b && not (test o)) ∷ without_events_of test os bs

-- 'ready entries of the next list become active in order, waiting ones stay': on scheduler q
unfoldable pub end_on : ℕ → State → State
end_on q s =
    let es = (scheduler_at s q).next in
    let ready = ready_threads s.threads es in
    with_scheduler q (record { active = ready; next = still_waiting s.threads es }) s

-- and on each of those schedulers
unfoldable pub end_on_each : List ℕ → State → State
end_on_each [] s = s
end_on_each (q ∷ qs) s = end_on_each qs (end_on q s)

-- scheduler q has an active thread; a ready one
abbrev pub has_active : State → ℕ → Bool
has_active s q = elim (scheduler_at s q).active [ [] ↦ false | t ∷ ts ↦ true ]

abbrev pub has_ready : State → ℕ → Bool
has_ready s q = any (is_ready s.threads) (scheduler_at s q).next

-- '16 'nothing': no active thread there and no ready one in its next list', which ends no instant.
-- 02, change 7: 'An instant of a group ends only when no member has an active thread, in one step,
-- for all of them. A chosen member without active threads answers 16 while another has some, or
-- when no member has a ready thread.'
unfoldable pub end_instant : Program → State → ℕ → StepResult
end_instant p s c =
    let qs = members p c in
    let present = without_events_of (in_step p.links c) p.events s.present in
    when any (has_active s) qs then nobody nothing_ready s else
    when not (any (has_ready s) qs) then nobody nothing_ready s else
    nobody 0 (with_present present (end_on_each qs s))

-- 'Choosing a scheduler steps its first active thread; with none active, an instant ends'
abbrev pub step_scheduler_within : Spaces → Program → State → ℕ → List ℕ → StepResult
step_scheduler_within z p s c [] = end_instant p s c
step_scheduler_within z p s c (t ∷ ts) = step_thread_within z p s c t

-- the thread that a choice names where it is no scheduler: '16+t the loose thread t'
abbrev pub thread_chosen : ℕ → ℕ
thread_chosen c = c - thread_owner_from

-- that thread is there, stands on 1 and has not ended
unfoldable pub is_unlinked : State → ℕ → Bool
is_unlinked s c =
    let t = thread_chosen c in
    leb (thread_owner 1) c && leb t (length s.threads) && eqb (thread_at s t).place private
    && not (thread_at s t).ended

-- '15 no such party (neither a scheduler of the file nor a thread now loose)'
unfoldable pub step_within : Spaces → Program → State → ℕ → StepResult
step_within z p s c =
    when is_scheduler_of p c then step_scheduler_within z p s c (scheduler_at s c).active else
    when is_unlinked s c then step_thread_within z p s c (thread_chosen c) else
    nobody no_party s

-- in the spaces that a state has
abbrev pub step : Program → State → ℕ → StepResult
step p s c = step_within state_spaces p s c
