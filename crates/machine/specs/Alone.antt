-- 02, change 7: 'Files without K 04 run as they did.' The stepping rules as they were before that
-- change, where they differ, and the statement that a file without links keeps to them.
use Rattle.std.specs.Prelude.{◌∷◌, ◌&&◌, ◌||◌, ◌+◌}
use Rattle.basics.specs.Prelude.{List, [], Bool, true, not, ℕ, leb}
use Rattle.std.specs.Prelude.{◌≡◌}
use Rattle.basics.specs.Prelude.{eqb, length, set, when◌then◌else◌, All}
use Rattle.language.specs.{Places.home, Refusals.foreign, Refusals.stuck, Refusals.no_party}
use Rattle.language.specs.{Refusals.nothing_ready}
use Rattle.program.specs.Trees.{Stmt, nothing, seq, do_at, start, start_wait, cooperate, let_in, store}
use Rattle.program.specs.Trees.{if_else, while, generate, await}
use Rattle.program.specs.Programs.{Program, owner_of_event}
use Rattle.machine.specs.State.{State, Item, run, back, drop, Entry, awaiting, is_present}
use Rattle.machine.specs.State.{thread_at, scheduler_at, with_scheduler, with_present, enlist}
use Rattle.machine.specs.Waits.{threads_where, is_awaiting, ready_threads, still_waiting}
use Rattle.machine.specs.Turns.{StepResult, state_spaces, Turn, here, unlinked_here, refuse}
use Rattle.machine.specs.Turns.{accept, settled, leave, holds, room, is_scheduler_of}
use Rattle.machine.specs.Statements.{ends, drops, goes_back, step_nothing, step_seq, step_do}
use Rattle.machine.specs.Statements.{step_start, step_start_wait, step_cooperate, step_let}
use Rattle.machine.specs.Statements.{step_store, step_if, step_while, with_signal, wake}
use Rattle.machine.specs.Steps.{turn_within, nobody, without_events_of, thread_chosen, is_unlinked}
use Rattle.machine.specs.Steps.{step}

-- ---- 1A, 1B: 02, change 5

-- the thread stands on the event's owner; any other access is foreign
unfoldable pub own_event_alone : Turn → ℕ → Bool
own_event_alone u e = leb home (here u) && eqb (owner_of_event u.program e) (here u)

-- what stands in the way of an access to event e; else r, of the turn with the access
unfoldable pub signalling_alone : Turn → ℕ → Bool → (Turn → StepResult) → StepResult
signalling_alone u e has_room r =
    when leb (length u.program.events) e then refuse u stuck else
    when not has_room then refuse u stuck else
    when own_event_alone u e then r (with_signal u e) else refuse (with_signal u e) foreign

-- those that a generation wakes on the event's owner have room there
unfoldable pub room_to_wake_alone : Turn → ℕ → Bool
room_to_wake_alone u e =
    let x = scheduler_at u.state (owner_of_event u.program e) in
    holds u.spaces.entries (length x.active + length (threads_where (is_awaiting e) x.next))

-- 1A: it wakes those on the event's owner
unfoldable pub generate_alone : Turn → ℕ → StepResult
generate_alone u e =
    signalling_alone u e (room_to_wake_alone u e)
    (λ v. accept v
    (with_present (set v.state.present e true)
    (wake (owner_of_event v.program e) e (settled v v.self))))

-- 1B
unfoldable pub await_alone : Turn → ℕ → StepResult
await_alone u e =
    signalling_alone u e (is_present u.state e || unlinked_here u || room u 1 (here u))
    (λ v. when is_present v.state e then accept v (settled v v.self) else
    accept v
    (enlist (here v) (awaiting v.thread e)
    (leave v (settled v (thread_at v.state v.thread)))))

-- all other statements are as they were
abbrev pub statement_alone : Turn → Stmt → StepResult
statement_alone u (nothing i) = step_nothing u
statement_alone u (seq i a b) = step_seq u a b
statement_alone u (do_at i q a) = step_do u q a
statement_alone u (start i m xs) = step_start u m xs
statement_alone u (start_wait i m xs) = step_start_wait u m xs
statement_alone u (cooperate i) = step_cooperate u
statement_alone u (let_in i x a) = step_let u x a
statement_alone u (store i x y) = step_store u x y
statement_alone u (if_else i x a b) = step_if u x a b
statement_alone u (while i x a) = step_while u x a (while i x a)
statement_alone u (generate i e) = generate_alone u e
statement_alone u (await i e) = await_alone u e

-- ---- a thread's step

abbrev turn_of : Program → State → ℕ → ℕ → List Item → Turn
turn_of p s c t items = turn_within state_spaces p s c t items

abbrev pub items_alone : Program → State → ℕ → ℕ → List Item → StepResult
items_alone p s c t [] = ends (turn_of p s c t [])
items_alone p s c t (run x ∷ items) = statement_alone (turn_of p s c t items) x
items_alone p s c t (back q ∷ items) = goes_back (turn_of p s c t items) q
items_alone p s c t (drop ∷ items) = drops (turn_of p s c t items)

unfoldable pub thread_alone : Program → State → ℕ → ℕ → StepResult
thread_alone p s c t = items_alone p s c t (thread_at s t).continuation

-- ---- the end of an instant

-- the instant of c alone ends, and its events are no longer present; 16 where no thread is ready
abbrev pub turn_instant_alone : Program → State → ℕ → List ℕ → List Entry → StepResult
turn_instant_alone p s c [] es = nobody nothing_ready s
turn_instant_alone p s c (t ∷ ts) es =
    nobody 0
    (with_present (without_events_of (λ o. eqb o c) p.events s.present)
    (with_scheduler c (record { active = t ∷ ts; next = es }) s))

unfoldable pub end_instant_alone : Program → State → ℕ → StepResult
end_instant_alone p s c =
    let es = (scheduler_at s c).next in
    turn_instant_alone p s c (ready_threads s.threads es) (still_waiting s.threads es)

-- ---- a choice

abbrev pub scheduler_alone : Program → State → ℕ → List ℕ → StepResult
scheduler_alone p s c [] = end_instant_alone p s c
scheduler_alone p s c (t ∷ ts) = thread_alone p s c t

unfoldable pub step_alone : Program → State → ℕ → StepResult
step_alone p s c =
    when is_scheduler_of p c then scheduler_alone p s c (scheduler_at s c).active else
    when is_unlinked s c then thread_alone p s c (thread_chosen c) else
    nobody no_party s

-- of a program without links, each of whose events has a scheduler of the file as owner, which
-- refusals 1 to 7 leave (`AsBefore`, crate reach): on every state, fresh or not, each choice
-- gives what it gave; proved in proofs/Alone
abbrev pub RunsAsBefore : Type 0
RunsAsBefore =
    (p : Program) → p.links ≡ [] → All (λ (o : ℕ). is_scheduler_of p o ≡ true) p.events
    → (s : State) (c : ℕ) → step p s c ≡ step_alone p s c
