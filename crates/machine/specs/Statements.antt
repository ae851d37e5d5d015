-- 'A thread's step takes its top pile item': one definition for each item.
use Rattle.std.specs.Prelude.{◌∷◌, ◌++◌, ◌&&◌, ◌||◌}
use Rattle.basics.specs.Prelude.{List, [], Bool, true, false, not, ℕ, suc}
use Rattle.std.specs.Prelude.{◌+◌, ◌-◌}
use Rattle.basics.specs.Prelude.{leb, eqb, length, take, set, when◌then◌else◌, every}
use Rattle.language.specs.{Places.private, Places.home, Limits.most_threads, Groups.in_step}
use Rattle.language.specs.{Refusals.threads_spent, Refusals.foreign, Refusals.stuck}
use Rattle.program.specs.Trees.{Expr, Stmt, nothing, seq, do_at, start, start_wait, cooperate, let_in}
use Rattle.program.specs.Trees.{store, if_else, while, generate, await}
use Rattle.program.specs.Programs.{Part, Program, module_at, owner_of_event}
use Rattle.machine.specs.Groups.{members}
use Rattle.machine.specs.State.{run, back, drop, Thread, plain, waiting, awaiting, State}
use Rattle.machine.specs.State.{is_present, scheduler_at, thread_at, with_scheduler, with_new}
use Rattle.machine.specs.{State.with_present, State.enlist, Accesses.Signal}
use Rattle.machine.specs.Waits.{threads_where, entries_except, is_awaiting}
use Rattle.machine.specs.Evaluation.{eval, storing}
use Rattle.machine.specs.Turns.{StepResult, Turn, here, continuation, variables, unlinked_here}
use Rattle.machine.specs.Turns.{refuse, accept, with_value, with_values, by_condition, settled}
use Rattle.machine.specs.Turns.{leave, holds, room, stay, go_to, turn_so_far}
use Rattle.machine.specs.Values.{Value}

-- 'none: the thread ends and leaves'
unfoldable pub ends : Turn → StepResult
ends u =
    let x : Thread = record {
      place = here u;
      continuation = [];
      variables = variables u;
      starter = u.self.starter;
      ended = true;
    } in
    accept u (leave u (settled u x))

-- a drop of the last variable; a missing one is 20
unfoldable pub drops : Turn → StepResult
drops u =
    when eqb (length (variables u)) 0
    then refuse u stuck
    else stay u (continuation u) (take (length (variables u) - 1) (variables u))

-- ''Back' moves in the same way.'
unfoldable pub goes_back : Turn → ℕ → StepResult
goes_back u q = go_to u q (continuation u)

-- 10: 'used up'
unfoldable pub step_nothing : Turn → StepResult
step_nothing u = stay u (continuation u) (variables u)

-- 11: 'A above B'
unfoldable pub step_seq : Turn → Stmt → Stmt → StepResult
step_seq u a b = stay u (run a ∷ run b ∷ continuation u) (variables u)

-- 12: 'A above 'back to here''. 'refusal 12's condition met when running' is 20: unlinked, S 1
unfoldable pub step_do : Turn → ℕ → Stmt → StepResult
step_do u q a =
    when unlinked_here u && eqb q private then refuse u stuck else
    go_to u q (run a ∷ back (here u) ∷ continuation u)

-- ---- 13, 14

-- 'its pile holding the module's body, its variables the arguments'
abbrev pub started : Turn → Part → List Value → Thread
started u m vs =
    record {
      place = here u;
      continuation = run m.body ∷ [];
      variables = vs;
      starter = u.thread;
      ended = false;
    }

-- the next thread number
abbrev pub new_thread : Turn → ℕ
new_thread u = suc (length u.state.threads)

-- s with the 'new thread at the end of this next list'
abbrev pub with_started : Turn → ℕ → List Value → State → State
with_started u m vs s =
    enlist (here u) (plain (new_thread u)) (with_new (started u (module_at u.program m) vs) s)

-- what stands in the way of a start, '20, 19, 17, 18': unlinked, a missing module, another number
-- of arguments, a full list; '18 spent, a 65th thread'; else r
unfoldable pub starting : Turn → ℕ → List Value → StepResult → StepResult
starting u m vs r =
    when unlinked_here u then refuse u stuck else
    when leb (length u.program.modules) m then refuse u stuck else
    when not (eqb (length vs) (length (module_at u.program m).types)) then refuse u stuck else
    when not (room u 1 (here u)) then refuse u stuck else
    when leb most_threads (length u.state.threads) then refuse u threads_spent else r

-- 13
unfoldable pub step_start : Turn → ℕ → List Expr → StepResult
step_start u m xs =
    with_values u xs
    (λ vs w. starting w m vs (accept w (with_started w m vs (settled w w.self))))

-- 14: 'the same, then the starter behind it, waiting'. Its own room is tested last: with 64
-- threads, 63 of them in this list, the answer is 18, since a full list is one 'which only a
-- caller's own state can bring'
unfoldable pub started_wait : Turn → ℕ → List Value → StepResult
started_wait u m vs =
    let s = with_started u m vs (leave u (settled u u.self)) in
    when room u 2 (here u) then accept u (enlist (here u) (waiting u.thread (new_thread u)) s) else
    refuse u stuck

unfoldable pub step_start_wait : Turn → ℕ → List Expr → StepResult
step_start_wait u m xs = with_values u xs (λ vs w. starting w m vs (started_wait w m vs))

-- ---- 15 to 19

-- 15: 'to the end of the next list'; while unlinked it is 20
unfoldable pub step_cooperate : Turn → StepResult
step_cooperate u =
    when unlinked_here u then refuse u stuck else
    when room u 1 (here u)
    then accept u (enlist (here u) (plain u.thread) (leave u (settled u u.self)))
    else refuse u stuck

-- 16: 'body above a drop of the variable'
unfoldable pub step_let : Turn → Expr → Stmt → StepResult
step_let u x a =
    with_value u (λ h. eval h x)
    (λ v w. stay w (run a ∷ drop ∷ continuation w) (variables w ++ (v ∷ [])))

-- 17
unfoldable pub step_store : Turn → Expr → Expr → StepResult
step_store u x y = with_value u (λ h. storing h x y) (λ v w. stay w (continuation w) (variables w))

-- 18: 'one branch'
unfoldable pub step_if : Turn → Expr → Stmt → Stmt → StepResult
step_if u x a b =
    with_value u (λ h. eval h x)
    (λ v w. by_condition w v
    (stay w (run a ∷ continuation w) (variables w))
    (stay w (run b ∷ continuation w) (variables w)))

-- 19: 'if true, the body above the same loop'
unfoldable pub step_while : Turn → Expr → Stmt → Stmt → StepResult
step_while u x a loop =
    with_value u (λ h. eval h x)
    (λ v w. by_condition w v
    (stay w (run a ∷ run loop ∷ continuation w) (variables w))
    (stay w (continuation w) (variables w)))

-- ---- 1A, 1B: 02, change 5

-- the turn with its access to event e
abbrev pub with_signal : Turn → ℕ → Turn
with_signal u e =
    let o = owner_of_event u.program e in
    let signal : Signal = record { event = e; owner = o; thread = u.thread; place = here u } in
    turn_so_far u u.cells u.accesses (u.signals ++ (signal ∷ []))

-- the thread stands on the event's owner, or, 02, change 7, on a scheduler in step with it: 'an
-- event's owner must be the place or in step with it, and in a run likewise'; any other access is
-- foreign
unfoldable pub is_own_event : Turn → ℕ → Bool
is_own_event u e =
    leb home (here u) && in_step u.program.links (owner_of_event u.program e) (here u)

-- what stands in the way of an access to event e: 'when running, a missing one is 20 and another
-- owner's 19', a full list, where it has no room, 20 too; else r, of the turn with the access
unfoldable pub signalling : Turn → ℕ → Bool → (Turn → StepResult) → StepResult
signalling u e has_room r =
    when leb (length u.program.events) e then refuse u stuck else
    when not has_room then refuse u stuck else
    when is_own_event u e then r (with_signal u e) else refuse (with_signal u e) foreign

-- 'A generation moves the threads awaiting the event on its scheduler's next list, in list order,
-- to the end of the active list.'
unfoldable pub wake : ℕ → ℕ → State → State
wake q e s =
    let x = scheduler_at s q in
    let woken = threads_where (is_awaiting e) x.next in
    let others = entries_except (is_awaiting e) x.next in
    with_scheduler q (record { active = x.active ++ woken; next = others }) s

-- 02, change 7: 'A generation wakes its awaiters on each member, by number, into that member's
-- active list': on those schedulers
unfoldable pub wake_on_each : List ℕ → ℕ → State → State
wake_on_each [] e s = s
wake_on_each (q ∷ qs) e s = wake_on_each qs e (wake q e s)

-- the members of the group of event e's owner
abbrev pub event_group : Program → ℕ → List ℕ
event_group p e = members p (owner_of_event p e)

-- those that it wakes on scheduler q have room there
unfoldable pub room_to_wake_on : Turn → ℕ → ℕ → Bool
room_to_wake_on u e q =
    let x = scheduler_at u.state q in
    holds u.spaces.entries (length x.active + length (threads_where (is_awaiting e) x.next))

-- and on each member
unfoldable pub room_to_wake : Turn → ℕ → Bool
room_to_wake u e = every (room_to_wake_on u e) (event_group u.program e)

-- 1A: 'An event is present from its generation'
unfoldable pub step_generate : Turn → ℕ → StepResult
step_generate u e =
    signalling u e (room_to_wake u e)
    (λ v. accept v
    (with_present (set v.state.present e true)
    (wake_on_each (event_group v.program e) e (settled v v.self))))

-- 1B: 'Awaiting a present event passes on in that step. Otherwise the thread goes to the end of the
-- next list .. and tries again when it is active': it is left as it was, the statement on top
unfoldable pub step_await : Turn → ℕ → StepResult
step_await u e =
    signalling u e (is_present u.state e || unlinked_here u || room u 1 (here u))
    (λ v. when is_present v.state e then accept v (settled v v.self) else
    accept v
    (enlist (here v) (awaiting v.thread e)
    (leave v (settled v (thread_at v.state v.thread)))))

abbrev pub step_statement : Turn → Stmt → StepResult
step_statement u (nothing i) = step_nothing u
step_statement u (seq i a b) = step_seq u a b
step_statement u (do_at i q a) = step_do u q a
step_statement u (start i m xs) = step_start u m xs
step_statement u (start_wait i m xs) = step_start_wait u m xs
step_statement u (cooperate i) = step_cooperate u
step_statement u (let_in i x a) = step_let u x a
step_statement u (store i x y) = step_store u x y
step_statement u (if_else i x a b) = step_if u x a b
step_statement u (while i x a) = step_while u x a (while i x a)
step_statement u (generate i e) = step_generate u e
step_statement u (await i e) = step_await u e
