-- From a fresh state on no list, continuation or variable space is ever full, in every program
-- whose bodies have room, typed or not: each choice gives what it would give in spaces without end,
-- and the threads' continuations keep all the room that they will take. Assumes nothing.
use mathlib.Core.Path.{◌≡◌, refl, sym, ap, subst}
use mathlib.Core.Logic.{inl, inr}
use mathlib.Core.List.{List, [], ◌∷◌, ◌++◌}
use mathlib.Core.Bool.{Bool, true, false, not, true≢false}
use mathlib.Core.Bool.{◌||◌}
use Prim.Native.Nat.{ℕ, zero, suc, ◌+◌, ◌-◌, ◌≤◌, ◌<◌}
use native.Mathlib.Omega.{arith}
use lib.Dec.{leb, eqb}
use lib.ListN.{length, get_or, set, take, replicate, length-append}
use lib.Seq.{length-take-le}
use borrow.Author.Tests.{leb-false, eqb-true, not-false}
use Rattle.basics.specs.If.{when◌then◌else◌}
use Rattle.basics.specs.Chains.{last_from}
use Rattle.program.specs.Trees.{Expr, number, Stmt, nothing, seq, do_at, start, start_wait, cooperate}
use Rattle.program.specs.Trees.{let_in, store, if_else, while}
use Rattle.program.specs.Trees.{generate, await}
use Rattle.program.specs.Programs.{Program, module_at, main_of}
use Rattle.machine.specs.State.{State, Item, run, back, drop, Thread, Entry, plain, no_thread}
use Rattle.machine.specs.State.{nth, set_nth, scheduler_at, thread_at, enlist}
use Rattle.machine.specs.State.{is_present}
use Rattle.machine.specs.Fresh.{fresh}
use Rattle.machine.specs.Evaluation.{Here, EvalResult, Evaluation, eval, storing}
use Rattle.machine.specs.Turns.{endless_spaces, StepResult, Turn, here, continuation, variables}
use Rattle.machine.specs.Turns.{refuse, accept, after_eval, evaluator, go_on, with_value}
use Rattle.machine.specs.Turns.{with_values, by_condition, self_at, settled, is_scheduler_of}
use Rattle.machine.specs.Turns.{leave, unlinked_here, room, fits, stay, move, go_to}
use Rattle.machine.specs.Statements.{ends, drops, goes_back, step_nothing, step_seq, step_do}
use Rattle.machine.specs.Statements.{started, starting, step_start, started_wait, step_start_wait}
use Rattle.machine.specs.Statements.{step_cooperate, step_let, step_store, step_if, step_while}
use Rattle.machine.specs.Statements.{step_statement}
use Rattle.machine.specs.Statements.{with_signal, is_own_event, signalling, event_group}
use Rattle.machine.specs.Statements.{room_to_wake_on, room_to_wake}
use Rattle.machine.specs.Statements.{step_generate, step_await}
use Rattle.machine.specs.Inner.Parts.{turn, step_items, step_thread, step_scheduler}
use Rattle.machine.specs.Steps.{step_items_within, step_thread_within}
use Rattle.machine.specs.Steps.{step_scheduler_within, is_unlinked, step, step_within}
use Rattle.machine.specs.Runs.{state_from, state_after}
use Rattle.machine.specs.declared.value.Value.{Value}
use Rattle.machine.specs.declared.value.Value.TheVariants.{Number, Truth, Cell}
use Rattle.machine.specs.declared.value.Outcome.{Outcome}
use Rattle.machine.specs.declared.value.Outcome.TheVariants.{Is, Foreign, Spent, Stuck}
use Rattle.machine.proofs.Space.{Counted, Acting, room_one, room_two, leave_threads}
use Rattle.machine.proofs.Space.{acting_with, free_same, unlinked_free, counted_step}
use Rattle.machine.proofs.Space.{fresh_counted}
use Rattle.machine.proofs.Space.{room_awake}
use Rattle.machine.proofs.GroupLaws.{every_all, woken_threads, instant_threads}
use Rattle.machine.proofs.Continuations.{height, lets, Roomy, no_items, run_item, roomy_fits}
use Rattle.machine.proofs.Continuations.{fits-true, roomy_seq, roomy_do, roomy_let}
use Rattle.machine.proofs.Continuations.{roomy_while, roomy_then, roomy_else, below_run}
use Rattle.machine.proofs.Continuations.{below_back}
use Rattle.machine.proofs.Depth.{BodiesFit}

-- ---- threads with all the room that they will take

abbrev pub RoomyThread : Thread → Type 0
RoomyThread x = Roomy (length x.variables) x.continuation

abbrev pub RoomyThreads : List Thread → Type 0
RoomyThreads xs = (t : ℕ) → RoomyThread (nth xs t)

-- a body alone
body_roomy : (n : ℕ) (x : Stmt) → height x ≤ 25 → n + lets x ≤ 25 → Roomy n (run x ∷ [])
body_roomy n x h g =
    run_item {n = n} {x = x} {l = []} (omega arith) g (no_items {n = n} (omega arith))

none_roomy : RoomyThread no_thread
none_roomy = no_items {n = 0} (omega arith)

-- one replaced, and one more
set_roomy : (xs : List Thread) (i : ℕ) (x : Thread) → ((j : ℕ) → RoomyThread (get_or xs j no_thread))
    → RoomyThread x → (j : ℕ) → RoomyThread (get_or (set xs i x) j no_thread)
set_roomy [] i x h q j = h j
set_roomy (y ∷ xs) zero x h q zero = q
set_roomy (y ∷ xs) zero x h q (suc j) = h (suc j)
set_roomy (y ∷ xs) (suc i) x h q zero = h 0
set_roomy (y ∷ xs) (suc i) x h q (suc j) = set_roomy xs i x (λ k. h (suc k)) q j

snoc_roomy : (xs : List Thread) (x : Thread) → ((j : ℕ) → RoomyThread (get_or xs j no_thread))
    → RoomyThread x → (j : ℕ) → RoomyThread (get_or (xs ++ (x ∷ [])) j no_thread)
snoc_roomy [] x h q zero = q
snoc_roomy [] x h q (suc j) = none_roomy
snoc_roomy (y ∷ xs) x h q zero = h 0
snoc_roomy (y ∷ xs) x h q (suc j) = snoc_roomy xs x (λ k. h (suc k)) q j

with_roomy : (xs : List Thread) (k : ℕ) (x : Thread) → RoomyThreads xs → RoomyThread x
    → RoomyThreads (set_nth xs k x)
with_roomy xs zero x h q t = h t
with_roomy xs (suc i) x h q zero = none_roomy
with_roomy xs (suc i) x h q (suc j) = set_roomy xs i x (λ k. h (suc k)) q j

new_roomy : (xs : List Thread) (x : Thread) → RoomyThreads xs → RoomyThread x
    → RoomyThreads (xs ++ (x ∷ []))
new_roomy xs x h q zero = none_roomy
new_roomy xs x h q (suc j) = snoc_roomy xs x (λ k. h (suc k)) q j

left_roomy : (u : Turn) (s : State) → RoomyThreads s.threads → RoomyThreads (leave u s).threads
left_roomy u s h = subst RoomyThreads (sym (leave_threads u s)) h

-- ---- what a choice gives, in the state's spaces and in spaces without end

pub record Never (r w : StepResult) : Type 0 where
  pub same : r ≡ w
  pub roomy : RoomyThreads r.state.threads

-- the same turn in spaces without end
abbrev endlessly : Turn → Turn
endlessly u =
    record {
      program = u.program;
      state = u.state;
      choice = u.choice;
      thread = u.thread;
      self = u.self;
      cells = u.cells;
      accesses = u.accesses;
      signals = u.signals;
      spaces = endless_spaces;
    }

-- a turn of a thread whose top item was i
pub record Ready (i : Item) (u : Turn) : Type 0 where
  pub acting : Acting u
  pub before : RoomyThreads u.state.threads
  pub bodies : BodiesFit u.program
  pub top : Roomy (length (variables u)) (i ∷ continuation u)

never_if : (b : Bool) (x y v w : StepResult) → (b ≡ true → Never x v) → (b ≡ false → Never y w)
    → Never (when b then x else y) (when b then v else w)
unfolding when◌then◌else◌
never_if true x y v w f g = f refl
never_if false x y v w f g = g refl

-- both tests are met
never_yes : (b d : Bool) (x y v w : StepResult) → b ≡ true → d ≡ true → Never x v
    → Never (when b then x else y) (when d then v else w)
unfolding when◌then◌else◌
never_yes true true x y v w e f h = h
never_yes true false x y v w e f h = absurd (true≢false (sym f))
never_yes false d x y v w e f h = absurd (true≢false (sym e))

never_no : (b d : Bool) (x y v w : StepResult) → b ≡ true → d ≡ true → Never y w
    → Never (when not b then x else y) (when not d then v else w)
unfolding when◌then◌else◌
never_no true true x y v w e f h = h
never_no true false x y v w e f h = absurd (true≢false (sym f))
never_no false d x y v w e f h = absurd (true≢false (sym e))

endless_fits : (items : List Item) (vs : List Value) → fits endless_spaces items vs ≡ true
unfolding fits
endless_fits items vs = refl

endless_room : (u : Turn) (n q : ℕ) → room (endlessly u) n q ≡ true
unfolding room
endless_room u n q = refl

-- ---- the ways in which a turn goes on and ends

never_refuse : {i : Item} (u : Turn) (n : ℕ) → Ready i u
    → Never (refuse u n) (refuse (endlessly u) n)
never_refuse u n r = record { same = refl; roomy = r.before }

never_accept : (u : Turn) (s : State) → RoomyThreads s.threads
    → Never (accept u s) (accept (endlessly u) s)
never_accept u s h = record { same = refl; roomy = h }

never_stay : {i : Item} (u : Turn) (items : List Item) (vs : List Value) → Ready i u
    → Roomy (length vs) items → Never (stay u items vs) (stay (endlessly u) items vs)
unfolding stay
never_stay u items vs r o =
    never_yes (fits u.spaces items vs) (fits endless_spaces items vs) _ _ _ _
    (fits-true u.spaces r.acting.spaces items vs o) (endless_fits items vs)
    (never_accept u _ (with_roomy u.state.threads u.thread (self_at u (here u) items vs) r.before o))

never_move : {i : Item} (u : Turn) (q : ℕ) (items : List Item) → Ready i u
    → Roomy (length (variables u)) items → Never (move u q items) (move (endlessly u) q items)
unfolding move enlist leave
never_move u q items r o =
    let x = self_at u q items (variables u) in
    let h = left_roomy u (settled u x) (with_roomy u.state.threads u.thread x r.before o) in
    never_no (fits u.spaces items (variables u)) (fits endless_spaces items (variables u)) _ _ _ _ (fits-true u.spaces r.acting.spaces items (variables u) o) (endless_fits items (variables u))
    (never_if (eqb q 1) _ _ _ _ (λ _. never_accept u _ h)
    (λ _. never_yes (room u 1 q) (room (endlessly u) 1 q) _ _ _ _ (room_one u r.acting q) (endless_room u 1 q) (never_accept u _ h)))

never_go_to : {i : Item} (u : Turn) (q : ℕ) (items : List Item) → Ready i u
    → Roomy (length (variables u)) items → Never (go_to u q items) (go_to (endlessly u) q items)
unfolding go_to
never_go_to u q items r o = never_if (eqb q (here u)) _ _ _ _ (λ _. never_stay u items _ r o) (λ _. never_move u q items r o)

never_go_on : {i : Item} (u : Turn) (o : Outcome) (k : Value → Turn → StepResult) → Ready i u
    → ((v : Value) → Never (k v u) (k v (endlessly u)))
    → Never (go_on u o k) (go_on (endlessly u) o k)
never_go_on u (Is v) k r g = g v
never_go_on u Foreign k r g = never_refuse u 19 r
never_go_on u Spent k r g = never_refuse u 17 r
never_go_on u Stuck k r g = never_refuse u 20 r

never_value : {i : Item} (u : Turn) (m : Here → Evaluation) (k : Value → Turn → StepResult) → Ready i u
    → ((v : Value) (w : Turn) → Ready i w → Never (k v w) (k v (endlessly w)))
    → Never (with_value u m k) (with_value (endlessly u) m k)
never_value {i} u m k r g =
    let e : EvalResult = m (evaluator u) u.cells in
    let b : Ready i (after_eval u e) = record {
      acting = record { counted = r.acting.counted; stands = r.acting.stands; same = r.acting.same; spaces = r.acting.spaces };
      before = r.before;
      bodies = r.bodies;
      top = r.top;
    } in
    never_go_on (after_eval u e) e.outcome k b (λ v. g v (after_eval u e) b)

never_values : {i : Item} (u : Turn) (xs : List Expr) (k : List Value → Turn → StepResult) → Ready i u
    → ((vs : List Value) (w : Turn) → Ready i w → Never (k vs w) (k vs (endlessly w)))
    → Never (with_values u xs k) (with_values (endlessly u) xs k)
unfolding with_values
never_values u [] k r g = g [] u r
never_values u (x ∷ xs) k r g =
    never_value u (λ h. eval h x) _ r (λ v w j. never_values w xs _ j (λ vs. g (v ∷ vs)))

never_by : {i : Item} (u : Turn) (v : Value) (a b x y : StepResult) → Ready i u → Never a x → Never b y
    → Never (by_condition u v a b) (by_condition (endlessly u) v x y)
never_by u (Truth true) a b x y r f g = f
never_by u (Truth false) a b x y r f g = g
never_by u (Number n) a b x y r f g = never_refuse u 20 r
never_by u (Cell c) a b x y r f g = never_refuse u 20 r

-- ---- starts

never_starting : {i : Item} (u : Turn) (m : ℕ) (vs : List Value) (a b : StepResult) → Ready i u
    → (m < length u.program.modules → length vs ≡ length (module_at u.program m).types → length u.state.threads < 64 → Never a b)
    → Never (starting u m vs a) (starting (endlessly u) m vs b)
unfolding starting
never_starting u m vs a b r g =
    let n = length u.program.modules in
    let k = length (module_at u.program m).types in
    let no = never_refuse u 20 r in
    never_if (unlinked_here u) _ _ _ _ (λ _. no)
    (λ _. never_if (leb n m) _ _ _ _ (λ _. no)
    (λ e. never_if (not (eqb (length vs) k)) _ _ _ _ (λ _. no)
    (λ f. never_no (room u 1 (here u)) (room (endlessly u) 1 (here u)) _ _ _ _ (room_one u r.acting (here u)) (endless_room u 1 (here u))
    (never_if (leb 64 (length u.state.threads)) _ _ _ _ (λ _. never_refuse u 18 r)
    (λ d. g (leb-false n m e) (eqb-true (length vs) k (not-false (eqb (length vs) k) f)) (leb-false 64 (length u.state.threads) d))))))

-- the new thread has room for its body, and the starter is as it was
started_roomy : {i : Item} (u : Turn) (m : ℕ) (vs : List Value) → Ready i u
    → m < length u.program.modules → length vs ≡ length (module_at u.program m).types
    → RoomyThread (started u (module_at u.program m) vs)
started_roomy u m vs r l e =
    let b = r.bodies m l in
    let y = b.1 in
    body_roomy (length vs) (module_at u.program m).body b.0 (omega arith)

-- ---- events

endless_awake_on : (u : Turn) (e q : ℕ) → room_to_wake_on (endlessly u) e q ≡ true
unfolding room_to_wake_on
endless_awake_on u e q = refl

endless_awake : (u : Turn) (e : ℕ) → room_to_wake (endlessly u) e ≡ true
unfolding room_to_wake
endless_awake u e =
    every_all (room_to_wake_on (endlessly u) e) (event_group u.program e) (endless_awake_on u e)

either_room : (a b c : Bool) → c ≡ true → (a || b || c) ≡ true
either_room true b c e = refl
either_room false true c e = refl
either_room false false c e = e

never_signalling : {i : Item} (u : Turn) (e : ℕ) (b d : Bool) (k l : Turn → StepResult) → Ready i u
    → b ≡ true → d ≡ true → Never (k (with_signal u e)) (l (with_signal (endlessly u) e))
    → Never (signalling u e b k) (signalling (endlessly u) e d l)
unfolding signalling is_own_event
never_signalling u e b d k l r f g h =
    let no = never_refuse u 20 r in
    never_if (leb (length u.program.events) e) _ _ _ _ (λ _. no)
    (λ _. never_no b d _ _ _ _ f g
    (never_if (is_own_event u e) _ _ _ _ (λ _. h)
    (λ _. record { same = refl; roomy = r.before })))

-- ---- each statement, each item, each choice

never_statement : (u : Turn) (x : Stmt) → Ready (run x) u
    → Never (step_statement u x) (step_statement (endlessly u) x)
unfolding step_nothing step_seq step_do step_start started_wait step_start_wait step_cooperate step_let step_store step_if step_while step_generate step_await enlist leave
never_statement u (nothing i) r = never_stay u _ _ r (below_run r.top)
never_statement u (seq i a b) r = never_stay u _ _ r (roomy_seq r.top)
never_statement u (do_at i q a) r = never_if _ _ _ _ _ (λ _. never_refuse u 20 r) (λ _. never_go_to u q _ r (roomy_do (here u) r.top))
never_statement u (start i m xs) r =
    never_values u xs _ r (λ vs w j. never_starting w m vs _ _ j
    (λ l e d. never_accept w _ (new_roomy _ _ (with_roomy w.state.threads w.thread w.self j.before (below_run j.top)) (started_roomy w m vs j l e))))
never_statement u (start_wait i m xs) r =
    never_values u xs _ r (λ vs w j. never_starting w m vs _ _ j
    (λ l e d. never_yes (room w 2 (here w)) (room (endlessly w) 2 (here w)) _ _ _ _ (room_two w j.acting (here w) d) (endless_room w 2 (here w))
    (never_accept w _ (new_roomy _ _ (left_roomy w (settled w w.self) (with_roomy w.state.threads w.thread w.self j.before (below_run j.top))) (started_roomy w m vs j l e)))))
never_statement u (cooperate i) r =
    never_if (unlinked_here u) _ _ _ _ (λ _. never_refuse u 20 r)
    (λ _. never_yes (room u 1 (here u)) (room (endlessly u) 1 (here u)) _ _ _ _ (room_one u r.acting (here u)) (endless_room u 1 (here u))
    (never_accept u _ (left_roomy u (settled u u.self) (with_roomy u.state.threads u.thread u.self r.before (below_run r.top)))))
never_statement u (let_in i x a) r =
    never_value u (λ h. eval h x) _ r (λ v w j. never_stay w _ _ j
    (let e : suc (length (variables w)) ≡ length (variables w ++ (v ∷ [])) = (let l = length-append (variables w) (v ∷ []) in omega arith) in
    subst (λ (n : ℕ). Roomy n (run a ∷ drop ∷ continuation w)) e (roomy_let j.top)))
never_statement u (store i x y) r =
    never_value u (λ h. storing h x y) _ r (λ v w j. never_stay w _ _ j (below_run j.top))
never_statement u (if_else i x a b) r =
    never_value u (λ h. eval h x) _ r (λ v w j. never_by w v _ _ _ _ j (never_stay w _ _ j (roomy_then j.top)) (never_stay w _ _ j (roomy_else j.top)))
never_statement u (while i x a) r =
    never_value u (λ h. eval h x) _ r (λ v w j. never_by w v _ _ _ _ j (never_stay w _ _ j (roomy_while j.top)) (never_stay w _ _ j (below_run j.top)))
never_statement u (generate i e) r =
    never_signalling u e (room_to_wake u e) (room_to_wake (endlessly u) e) _ _ r
    (room_awake u r.acting e) (endless_awake u e)
    (never_accept (with_signal u e) _
    (subst RoomyThreads (sym (woken_threads (event_group u.program e) e (settled u u.self)))
    (with_roomy u.state.threads u.thread u.self r.before (below_run r.top))))
never_statement u (await i e) r =
    let y = thread_at u.state u.thread in
    never_signalling u e _ _ _ _ r
    (either_room (is_present u.state e) (unlinked_here u) _ (room_one u r.acting (here u)))
    (either_room (is_present u.state e) (unlinked_here u) _ (endless_room u 1 (here u)))
    (never_if (is_present u.state e) _ _ _ _
    (λ _. never_accept (with_signal u e) _ (with_roomy u.state.threads u.thread u.self r.before (below_run r.top)))
    (λ _. never_accept (with_signal u e) _ (left_roomy u (settled u y) (with_roomy u.state.threads u.thread y r.before (r.before u.thread)))))

-- a drop finds its variable, and leaves the others
dropped : {n : ℕ} {l : List Item} → Roomy n (drop ∷ l) → Roomy (n - 1) l
dropped (Roomy.drop_item {n =
    n} {l = l} h g r) = let e : n ≡ suc n - 1 = omega arith in subst (λ (j : ℕ). Roomy j l) e r

never_drop : (u : Turn) → Ready drop u → Never (drops u) (drops (endlessly u))
unfolding drops
never_drop u r =
    let n = length (variables u) in
    never_if (eqb n 0) _ _ _ _ (λ _. never_refuse u 20 r)
    (λ _. never_stay u (continuation u) (take (n - 1) (variables u)) r
    (subst (λ (j : ℕ). Roomy j (continuation u)) (sym (length-take-le (n - 1) (variables u) (omega arith))) (dropped r.top)))

module _ (p : Program) (bodies : BodiesFit p) (s : State) (c : ℕ) (before : RoomyThreads s.threads) where
  ready : (t : ℕ) (i : Item) (items : List Item) → Acting (turn p s c t [])
      → Roomy (length (thread_at s t).variables) (i ∷ items) → Ready i (turn p s c t items)
  ready t i items a o =
      record { acting = acting_with p s c t items a; before = before; bodies = bodies; top = o }

  never_items : (t : ℕ) (items : List Item) → Acting (turn p s c t [])
      → Roomy (length (thread_at s t).variables) items
      → Never (step_items p s c t items) (step_items_within endless_spaces p s c t items)
  unfolding ends goes_back leave
  never_items t [] a o =
      let u = turn p s c t [] in
      never_accept u _ (left_roomy u (settled u _) (with_roomy s.threads t _ before (no_items (roomy_fits o).1)))
  never_items t (run x ∷ items) a o =
      never_statement (turn p s c t items) x (ready t (run x) items a o)
  never_items t (back q ∷ items) a o =
      never_go_to (turn p s c t items) q _ (ready t (back q) items a o) (below_back o)
  never_items t (drop ∷ items) a o = never_drop (turn p s c t items) (ready t drop items a o)

  never_thread : (t : ℕ) → Acting (turn p s c t [])
      → Never (step_thread p s c t) (step_thread_within endless_spaces p s c t)
  unfolding step_thread_within
  never_thread t a = never_items t (thread_at s t).continuation a (before t)

  never_scheduler : (ts : List ℕ) → Counted s → is_scheduler_of p c ≡ true
      → ts ≡ (scheduler_at s c).active
      → Never (step_scheduler p s c ts) (step_scheduler_within endless_spaces p s c ts)
  never_scheduler [] h i e =
      record { same = refl; roomy = subst RoomyThreads (sym (instant_threads p s c)) before }
  never_scheduler (t ∷ ts) h i e =
      let n = ap (length {A = ℕ}) e in
      never_thread t (record { counted = h; stands = inl (i, omega arith); same = free_same p s c t; spaces = refl })

  pub never_step : Counted s → Never (step p s c) (step_within endless_spaces p s c)
  unfolding step_within
  never_step h =
      never_if (is_scheduler_of p c) _ _ _ _ (λ i. never_scheduler (scheduler_at s c).active h i refl)
      (λ i. never_if (is_unlinked s c) _ _ _ _
      (λ l. never_thread (c - 16) (record { counted = h; stands = inr (i, unlinked_free s c l); same = free_same p s c (c - 16); spaces = refl }))
      (λ _. record { same = refl; roomy = before }))

-- ---- the states reached

module _ (p : Program) (bodies : BodiesFit p) where
  pub never_from : (s : State) → Counted s → RoomyThreads s.threads → (cs : List ℕ)
      → Counted (state_from p s cs) × RoomyThreads (state_from p s cs).threads
  unfolding last_from
  never_from s h r [] = (h, r)
  never_from s h r (c ∷ cs) =
      never_from (step p s c).state (counted_step p s c h) (never_step p bodies s c r h).roomy cs

  fresh_roomy : 1 ≤ length p.modules → RoomyThreads (fresh p).threads
  unfolding fresh
  fresh_roomy some zero = none_roomy
  fresh_roomy some (suc zero) =
      let b = bodies (length p.modules - 1) (omega arith) in
      let y = b.1 in
      body_roomy 0 (main_of p).body b.0 (omega arith)
  fresh_roomy some (suc (suc j)) = none_roomy

  -- in every state reached from the fresh one, every choice gives what it would give in spaces
  -- without end
  pub never_full : 1 ≤ length p.modules → (cs : List ℕ) (c : ℕ)
      → step p (state_after p cs) c ≡ step_within endless_spaces p (state_after p cs) c
  never_full some cs c =
      let r = never_from (fresh p) (fresh_counted p) (fresh_roomy some) cs in
      (never_step p bodies (state_after p cs) c r.1 r.0).same

-- ---- 'which only a caller's own state can bring': and one can, in each of the three spaces. There
-- the two differ

-- a program of one scheduler, and a state of one thread, active there
abbrev plain_program : Program
plain_program =
    record { allowance = 1; schedulers = 1; shared = []; events = []; links = []; modules = [] }

abbrev own_state : List Item → List Value → List Entry → State
own_state items vars entries =
    record {
      threads = record { place = 2; continuation = items; variables = vars; starter = 0; ended = false } ∷ [];
      schedulers = record { active = 1 ∷ []; next = entries } ∷ [];
      cells = [];
      present = [];
    }

abbrev Differs : State → Type 0
Differs s =
    ((step plain_program s 2).answer ≡ 20) × ((step_within endless_spaces plain_program s 2).answer ≡ 0)

pub full_continuation : Differs (own_state (run (seq 0 (nothing 0) (nothing 0)) ∷ replicate 24 drop) [] [])
unfolding step_within step_thread_within is_scheduler_of when◌then◌else◌ step_seq stay fits
full_continuation = (refl, refl)

pub full_variables : Differs (own_state (run (let_in 0 (number 0 0) (nothing 0)) ∷ []) (replicate 25 (Number 0)) [])
unfolding step_within step_thread_within is_scheduler_of when◌then◌else◌ step_let eval stay fits
full_variables = (refl, refl)

pub full_list : Differs (own_state (run (cooperate 0) ∷ []) [] (replicate 64 (plain 1)))
unfolding step_within step_thread_within is_scheduler_of when◌then◌else◌ step_cooperate room
full_list = (refl, refl)
