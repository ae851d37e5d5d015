-- Each choice keeps the state in shape, so a state reached from a fresh one is never 14: in a file
-- as refusals 1 to 7 leave it, `FileFits`, which crate reach proves of them. Assumes nothing.
use Prim.Native.Nat.{ℕ, suc, zero, ◌+◌, ◌-◌, ◌<◌, ◌≤◌}
use mathlib.Core.Path.{◌≡◌, refl, sym, ap, ◌∙◌, subst}
use mathlib.Core.List.{List, [], ◌∷◌, ◌++◌, map}
use mathlib.Core.Bool.{Bool, true, false, not, ◌&&◌}
use mathlib.Core.Bool.{true≢false, ◌||◌}
use native.Mathlib.Omega.{arith}
use lib.ListN.{get_or, length, set, replicate, length-set, length-append, length-map}
use lib.ListN.{length-replicate, get_or-eq_default}
use lib.Dec.{ltb, leb, eqb}
use borrow.Author.Tests.{ltb-true, ltb-false, eqb-true, leb-true, leb-false, le-leb, not-false}
use Rattle.basics.specs.Members.{All, none, more}
use Rattle.basics.proofs.Ifs.{if_all, and_true}
use Rattle.basics.specs.Chains.{last_from}
use Rattle.language.specs.Places.{has_place}
use Rattle.language.specs.declared.frame.Frame.{Frame}
use Rattle.language.proofs.PlaceLaws.{has_place_lem}
use Rattle.program.specs.Trees.{Expr, Stmt}
use Rattle.program.specs.Trees.{frame_at, statement_at, root_s}
use Rattle.program.specs.Programs.{Program, SharedCell, module_at, main_of}
use Rattle.machine.specs.State.{State, Item, run, back, drop, Thread, Entry, plain, waiting}
use Rattle.machine.specs.State.{Scheduler, no_thread, no_scheduler, no_cell, thread_at, set_nth}
use Rattle.machine.specs.State.{scheduler_at, with_scheduler, with_new, enlist}
use Rattle.machine.specs.State.{awaiting, is_present, with_present}
use Rattle.machine.specs.Fresh.{fresh, first_cell, main_thread, home_scheduler}
use Rattle.basics.specs.If.{keep_if}
use Rattle.machine.specs.Waits.{entry_thread}
use Rattle.machine.specs.Waits.{threads_where, entries_except, is_awaiting}
use Rattle.machine.specs.Inner.Families.{is_ready}
use Rattle.machine.specs.Evaluation.{Here, EvalResult, Evaluation, eval, storing}
use Rattle.machine.specs.Turns.{Spaces, holds, state_spaces, StepResult, Turn, here}
use Rattle.machine.specs.Turns.{variables, unlinked_here, evaluator, after_eval, go_on, with_value}
use Rattle.machine.specs.Turns.{with_values, by_condition, self_at, settled, is_scheduler_of}
use Rattle.machine.specs.Turns.{after_first, leave, room, fits, stay, move, go_to}
use Rattle.machine.specs.Statements.{ends, drops, goes_back, step_nothing, step_seq, step_do}
use Rattle.machine.specs.Statements.{started, new_thread, with_started, starting, step_start}
use Rattle.machine.specs.Statements.{started_wait, step_start_wait, step_cooperate, step_let}
use Rattle.machine.specs.Statements.{step_store, step_if, step_while, step_statement}
use Rattle.machine.specs.Statements.{with_signal, is_own_event, signalling, wake, wake_on_each}
use Rattle.machine.specs.Statements.{event_group, room_to_wake_on, room_to_wake}
use Rattle.machine.specs.Statements.{step_generate, step_await}
use Rattle.machine.specs.Inner.Parts.{turn, step_items, step_thread, step_scheduler}
use Rattle.machine.specs.Steps.{step_thread_within, end_on, end_on_each, end_instant, is_unlinked}
use Rattle.machine.specs.Steps.{step}
use Rattle.machine.specs.Groups.{members}
use Rattle.machine.proofs.GroupLaws.{every_each, woken_present, ended_present}
use Rattle.language.specs.Groups.{in_step}
use Rattle.machine.specs.Steps.{step_within}
use Rattle.machine.specs.Steps.{without_events_of}
use Rattle.machine.specs.Runs.{state_from, state_after}
use Rattle.machine.specs.Words.{pack}
use Rattle.machine.specs.Inner.Ranges.{in_range}
use Rattle.machine.specs.Shapes.{is_statement, ValueFits, ItemFits, run_fits, back_fits}
use Rattle.machine.specs.Shapes.{drop_fits, IsThread, EntryFits, plain_fits, waiting_fits}
use Rattle.machine.specs.Shapes.{ThreadFits, SchedulerFits, CellFits, Shaped}
use Rattle.machine.specs.Shapes.{awaiting_fits}
use Rattle.machine.specs.declared.value.Value.{Value}
use Rattle.machine.specs.declared.value.Value.TheVariants.{Number, Truth, Cell}
use Rattle.machine.specs.declared.value.Outcome.{Outcome}
use Rattle.machine.specs.declared.value.Outcome.TheVariants.{Is, Foreign, Spent, Stuck}
use Rattle.machine.proofs.Lists.{all_get_d, all_map, all_imply, all_append, all_take}
use Rattle.machine.proofs.Space.{leave_threads, nth_length, parted}
use Rattle.machine.proofs.Space.{own_linked}
use Rattle.machine.proofs.InShape.{shaped_in_range}
use Rattle.machine.proofs.KeptCells.{each_set, each_snoc, CellsFit, HereFits, ExprFits}
use Rattle.machine.proofs.KeptCells.{OutcomeFits, is_value, EvalFits, fit_eval, fit_storing}

-- ---- a file as refusals 1 to 7 leave it

-- what a statement is made of: statements of the file, places that it has, expressions in shape
pub data Parts (fs : List Frame) (n : ℕ) : Stmt → Type 0 where
  of_nothing : {i : ℕ} → Parts fs n (Stmt.nothing i)
  of_cooperate : {i : ℕ} → Parts fs n (Stmt.cooperate i)
  of_generate : {i e : ℕ} → Parts fs n (Stmt.generate i e)
  of_await : {i e : ℕ} → Parts fs n (Stmt.await i e)
  of_seq : {i : ℕ} {a b : Stmt} → ItemFits fs n (run a) → ItemFits fs n (run b)
      → Parts fs n (Stmt.seq i a b)
  of_do : {i q : ℕ} {a : Stmt} → has_place n q ≡ true → ItemFits fs n (run a)
      → Parts fs n (Stmt.do_at i q a)
  of_start : {i m : ℕ} {xs : List Expr} → All (ExprFits n) xs → Parts fs n (Stmt.start i m xs)
  of_wait : {i m : ℕ} {xs : List Expr} → All (ExprFits n) xs → Parts fs n (Stmt.start_wait i m xs)
  of_let : {i : ℕ} {x : Expr} {a : Stmt} → ExprFits n x → ItemFits fs n (run a)
      → Parts fs n (Stmt.let_in i x a)
  of_store : {i : ℕ} {x y : Expr} → ExprFits n x → ExprFits n y → Parts fs n (Stmt.store i x y)
  of_if : {i : ℕ} {x : Expr} {a b : Stmt} → ExprFits n x → ItemFits fs n (run a)
      → ItemFits fs n (run b) → Parts fs n (Stmt.if_else i x a b)
  of_while : {i : ℕ} {x : Expr} {a : Stmt} → ExprFits n x → ItemFits fs n (run a)
      → Parts fs n (Stmt.while i x a)

-- what the spaces need of a file of n schedulers: no number of it is out of range, and each
-- statement that a continuation can hold is one of its frames
pub record FileFits (fs : List Frame) (P : Program) (n : ℕ) : Type 0 where
  pub schedulers : P.schedulers ≡ n
  pub some_scheduler : 1 ≤ n
  pub most_schedulers : n ≤ 8
  pub shared_room : length P.shared ≤ 256
  pub shared : All (λ (x : SharedCell). CellFits n (first_cell x)) P.shared
  pub few_events : length P.events ≤ 16
  pub events : length P.events ≡ (frame_at fs 0).c
  pub some_module : 1 ≤ length P.modules
  pub bodies : (m : ℕ) → m < length P.modules
      → ItemFits fs n (run (module_at P m).body) × (length (module_at P m).types ≤ 25)
  pub statements : (i : ℕ) → i < 1024 → is_statement (frame_at fs i).kind ≡ true
      → Parts fs n (statement_at fs i)

-- ---- how many entries next lists have, when a scheduler is replaced

-- what is measured of a scheduler, when one is replaced by one that measures as much
measured : (f : Scheduler → ℕ) (xs : List Scheduler) (i j : ℕ) (y : Scheduler)
    → f y ≡ f (get_or xs i no_scheduler)
    → f (get_or (set xs i y) j no_scheduler) ≡ f (get_or xs j no_scheduler)
measured f [] i j y e = refl
measured f (x ∷ xs) zero zero y e = e
measured f (x ∷ xs) zero (suc j) y e = refl
measured f (x ∷ xs) (suc i) zero y e = refl
measured f (x ∷ xs) (suc i) (suc j) y e = measured f xs i j y e

next_same : (xs : List Scheduler) (i j : ℕ) (y : Scheduler)
    → length y.next ≡ length (get_or xs i no_scheduler).next
    → length (get_or (set xs i y) j no_scheduler).next ≡ length (get_or xs j no_scheduler).next
next_same = measured (λ (x : Scheduler). length x.next)

next_more : (xs : List Scheduler) (i : ℕ) (y : Scheduler)
    → length y.next ≡ length (get_or xs i no_scheduler).next + 1
    → length (get_or (set xs i y) i no_scheduler).next ≤ length (get_or xs i no_scheduler).next + 1
next_more [] i y e = omega arith
next_more (x ∷ xs) zero y e = omega arith
next_more (x ∷ xs) (suc i) y e = next_more xs i y e

-- ---- how many threads are active once those that await event e are
abbrev pub awake_on : ℕ → Scheduler → ℕ
awake_on e x = length x.active + length (threads_where (is_awaiting e) x.next)

-- the entries that stay do not pass
none_left : (test : Entry → Bool) (es : List Entry) → threads_where test (entries_except test es) ≡ []
unfolding threads_where entries_except
none_left test [] = refl
none_left test (e ∷ es) = go (test e) refl (none_left test es)
  where
    go : (b : Bool) → test e ≡ b → threads_where test (entries_except test es) ≡ []
        → threads_where test (keep_if (not b) e (entries_except test es)) ≡ []
    go true t h = h
    go false t h =
        ap (λ (b : Bool). keep_if b (entry_thread e) (threads_where test (entries_except test es))) t ∙ h

-- they are as many before as after, there and on every other scheduler
pub woken_load : (q e : ℕ) (s : State) (k : ℕ)
    → awake_on e (scheduler_at (wake q e s) k) ≡ awake_on e (scheduler_at s k)
unfolding wake
woken_load q e s k =
    let x = scheduler_at s q in
    let l = length-append x.active (threads_where (is_awaiting e) x.next) in
    let m = ap length (none_left (is_awaiting e) x.next) in
    measured (awake_on e) s.schedulers (q - 2) (k - 2)
    (record { active = x.active ++ threads_where (is_awaiting e) x.next; next = entries_except (is_awaiting e) x.next })
    (omega arith)

module _ (fs : List Frame) (P : Program) (n : ℕ) (F : FileFits fs P n) where
  -- a place's number fits the word of a 'back'
  pub place_small : (q : ℕ) → has_place n q ≡ true → q < 1024
  place_small q h = let l = (has_place_lem n q h).1 in let m = F.most_schedulers in omega arith

  pub parts_of : {x : Stmt} → ItemFits fs n (run x) → Parts fs n x
  parts_of {x} (run_fits l k e) = subst (Parts fs n) e (F.statements (root_s x) l k)

  -- ---- the parts of a state in shape, and the changes of them that a step makes

  none_fits : SchedulerFits (frame_at fs 0).c no_scheduler
  none_fits =
      record { active_room = omega arith; next_room = omega arith; threads = none; entries = none }

  pub scheduler_fits : (s : State) → Shaped fs n s → (q : ℕ)
      → SchedulerFits (frame_at fs 0).c (scheduler_at s q)
  scheduler_fits s z q = go (ltb (q - 2) (length s.schedulers)) refl
    where
      go : (b : Bool) → ltb (q - 2) (length s.schedulers) ≡ b
          → SchedulerFits (frame_at fs 0).c (scheduler_at s q)
      go true e = z.schedulers (q - 2) (ltb-true (q - 2) (length s.schedulers) e)
      go false e = subst (SchedulerFits (frame_at fs 0).c) (sym (get_or-eq_default s.schedulers no_scheduler {n = q - 2} (ltb-false (q - 2) (length s.schedulers) e))) none_fits

  with_scheduler_lem : (s : State) (q : ℕ) (y : Scheduler) → Shaped fs n s
      → SchedulerFits (frame_at fs 0).c y → Shaped fs n (with_scheduler q y s)
  with_scheduler_lem s q y z f =
      let l = length-set s.schedulers (q - 2) y in
      record {
        threads_room = z.threads_room;
        schedulers_room = rw l z.schedulers_room;
        cells_room = z.cells_room;
        events_room = z.events_room;
        events = z.events;
        count = l ∙ z.count;
        threads = z.threads;
        schedulers =
            each_set (SchedulerFits (frame_at fs 0).c) s.schedulers (q - 2) y no_scheduler z.schedulers (λ _. f);
        cells = z.cells;
      }

  enlist_fits : (s : State) (q : ℕ) (e : Entry) → Shaped fs n s → EntryFits (frame_at fs 0).c e
      → length (scheduler_at s q).next + 1 ≤ 64 → Shaped fs n (enlist q e s)
  unfolding enlist
  enlist_fits s q e z f r =
      let x = scheduler_fits s z q in
      let l = length-append (scheduler_at s q).next (e ∷ []) in
      with_scheduler_lem s q _ z
      (record { active_room = x.active_room; next_room = omega arith; threads = x.threads; entries = all_append x.entries (more f none) })

  with_new_lem : (s : State) (x : Thread) → Shaped fs n s → ThreadFits fs n x → length s.threads < 64
      → Shaped fs n (with_new x s)
  with_new_lem s x z f r =
      let l = length-append s.threads (x ∷ []) in
      record {
        threads_room = omega arith;
        schedulers_room = z.schedulers_room;
        cells_room = z.cells_room;
        events_room = z.events_room;
        events = z.events;
        count = z.count;
        threads = each_snoc (ThreadFits fs n) s.threads x no_thread z.threads f;
        schedulers = z.schedulers;
        cells = z.cells;
      }

  -- ---- a turn in shape

  pub record TurnFits (u : Turn) : Type 0 where
    pub before : Shaped fs n u.state
    pub cells : CellsFit n u.cells
    pub thread : IsThread u.thread
    pub self : ThreadFits fs n u.self
    pub program : u.program ≡ P
    pub spaces : u.spaces ≡ state_spaces

  abbrev Keeps : StepResult → Type 0
  Keeps r = Shaped fs n r.state

  -- the acting thread replaced, where it is there
  settled_fits : (u : Turn) (x : Thread) → Shaped fs n u.state → CellsFit n u.cells
      → ((i : ℕ) → u.thread ≡ suc i → i < length u.state.threads → ThreadFits fs n x)
      → Shaped fs n (settled u x)
  settled_fits u x z c f = record {
    threads_room = at u.thread (λ (l : List Thread). length l ≤ 64) z.threads_room (λ i q. rw (length-set u.state.threads i x) z.threads_room);
    schedulers_room = z.schedulers_room;
    cells_room = c.room;
    events_room = z.events_room;
    events = z.events;
    count = z.count;
    threads = at u.thread (λ (l : List Thread). (k : ℕ) → k < length l → ThreadFits fs n (get_or l k no_thread)) z.threads
        (λ i q. each_set (ThreadFits fs n) u.state.threads i x no_thread z.threads (f i q));
    schedulers = z.schedulers;
    cells = c.each;
  }
    where
      at : (t : ℕ) (Q : List Thread → Type 0) → Q u.state.threads
          → ((i : ℕ) → t ≡ suc i → Q (set u.state.threads i x))
          → Q (set_nth u.state.threads t x)
      at zero Q a b = a
      at (suc i) Q a b = b i refl

  keeps_settled : (u : Turn) (x : Thread) → TurnFits u → ThreadFits fs n x
      → Shaped fs n (settled u x)
  keeps_settled u x k f = settled_fits u x k.before k.cells (λ _ _ _. f)

  leave_fits : (u : Turn) (s : State) → Shaped fs n s → Shaped fs n (leave u s)
  unfolding leave
  leave_fits u s z =
      let x = scheduler_fits s z u.choice in
      if_all (Shaped fs n) (is_scheduler_of u.program u.choice) _ s
      (λ _. with_scheduler_lem s u.choice _ z
      (record { active_room = shorter (scheduler_at s u.choice).active x.active_room; next_room = x.next_room; threads = rest (scheduler_at s u.choice).active x.threads; entries = x.entries }))
      (λ _. z)
    where
      shorter : (l : List ℕ) → length l ≤ 64 → length (after_first l) ≤ 64
      shorter [] h = h
      shorter (t ∷ l) h = omega arith

      rest : (l : List ℕ) → All IsThread l → All IsThread (after_first l)
      rest [] h = none
      rest (t ∷ l) (more p ps) = ps

  pub leave_next : (u : Turn) (s : State) (q : ℕ)
      → length (scheduler_at (leave u s) q).next ≡ length (scheduler_at s q).next
  unfolding leave
  leave_next u s q =
      if_all (λ (r : State). length (scheduler_at r q).next ≡ length (scheduler_at s q).next)
      (is_scheduler_of u.program u.choice) _ s
      (λ _. next_same s.schedulers (u.choice - 2) (q - 2) _ refl) (λ _. refl)

  pub enlist_next : (s : State) (q : ℕ) (e : Entry)
      → length (scheduler_at (enlist q e s) q).next ≤ length (scheduler_at s q).next + 1
  unfolding enlist
  enlist_next s q e =
      next_more s.schedulers (q - 2) _ (length-append (scheduler_at s q).next (e ∷ []))

  pub has_room : (u : Turn) (m q : ℕ) → u.spaces ≡ state_spaces → room u m q ≡ true
      → length (scheduler_at u.state q).next + m ≤ 64
  unfolding room
  has_room u m q s e =
      let l = length (scheduler_at u.state q).next + m in
      let g = leb-true l _ (sym (ap (λ (z : Spaces). holds z.entries l) s) ∙ e) in
      omega arith

  -- ---- where a thread goes

  pub self_fits : (u : Turn) (q : ℕ) (items : List Item) (vars : List Value) → TurnFits u
      → has_place n q ≡ true → All (ItemFits fs n) items → All ValueFits vars
      → fits u.spaces items vars ≡ true
      → ThreadFits fs n (self_at u q items vars)
  unfolding fits
  self_fits u q items vars k p i v e =
      let l =
      and_true (holds state_spaces.items (length items))
      (holds state_spaces.values (length vars))
      (sym (ap (λ (z : Spaces). fits z items vars) k.spaces) ∙ e) in
      let a = leb-true (length items) _ l.0 in
      let b = leb-true (length vars) _ l.1 in
      record { place = p; starter = k.self.starter; items_room = omega arith; variables_room = omega arith; items = i; values = v }

  keeps_stay : (u : Turn) (items : List Item) (vars : List Value) → TurnFits u
      → All (ItemFits fs n) items → All ValueFits vars → Keeps (stay u items vars)
  unfolding stay
  keeps_stay u items vars k i v =
      if_all Keeps (fits u.spaces items vars) _ _ (λ e. keeps_settled u _ k (self_fits u (here u) items vars k k.self.place i v e)) (λ _. k.before)

  keeps_move : (u : Turn) (q : ℕ) (items : List Item) → TurnFits u → has_place n q ≡ true
      → All (ItemFits fs n) items → Keeps (move u q items)
  unfolding move
  keeps_move u q items k p i =
      if_all Keeps (not (fits u.spaces items (variables u))) _ _ (λ _. k.before)
      (λ e. let z = leave_fits u _ (keeps_settled u (self_at u q items (variables u)) k (self_fits u q items (variables u) k p i k.self.values (not-false (fits u.spaces items (variables u)) e))) in
      if_all Keeps (eqb q 1) _ _ (λ _. z)
      (λ _. if_all Keeps (room u 1 q) _ _
      (λ r. let l = leave_next u (settled u (self_at u q items (variables u))) q in let m = has_room u 1 q k.spaces r in
      enlist_fits (leave u (settled u (self_at u q items (variables u)))) q (plain u.thread) z (plain_fits k.thread) (omega arith))
      (λ _. k.before)))

  keeps_go_to : (u : Turn) (q : ℕ) (items : List Item) → TurnFits u → has_place n q ≡ true
      → All (ItemFits fs n) items → Keeps (go_to u q items)
  unfolding go_to
  keeps_go_to u q items k p i = if_all Keeps (eqb q (here u)) _ _ (λ _. keeps_stay u items (variables u) k i k.self.values) (λ _. keeps_move u q items k p i)

  -- ---- evaluations

  pub here_fits : (u : Turn) → TurnFits u → HereFits (evaluator u)
  here_fits u k = record { thread = k.thread; values = k.self.values; shared = subst (λ (p : Program). length p.shared ≤ 256) (sym k.program) F.shared_room }

  keeps_go_on : (u : Turn) (o : Outcome) (f : Value → Turn → StepResult) → TurnFits u → OutcomeFits o
      → ((v : Value) → ValueFits v → Keeps (f v u)) → Keeps (go_on u o f)
  keeps_go_on u (Is v) f k (is_value w) h = h v w
  keeps_go_on u Foreign f k o h = k.before
  keeps_go_on u Spent f k o h = k.before
  keeps_go_on u Stuck f k o h = k.before

  keeps_value : (u : Turn) (m : Here → Evaluation) (f : Value → Turn → StepResult) → TurnFits u
      → EvalFits n (m (evaluator u) u.cells)
      → ((v : Value) (w : Turn) → TurnFits w → ValueFits v → Keeps (f v w))
      → Keeps (with_value u m f)
  keeps_value u m f k e h =
      let r : EvalResult = m (evaluator u) u.cells in
      let b : TurnFits (after_eval u r) = record { before = k.before; cells = e.cells; thread = k.thread; self = k.self; program = k.program; spaces = k.spaces } in
      keeps_go_on (after_eval u r) r.outcome f b e.outcome (λ v. h v (after_eval u r) b)

  keeps_values : (u : Turn) (xs : List Expr) (f : List Value → Turn → StepResult) → TurnFits u
      → All (ExprFits n) xs
      → ((vs : List Value) (w : Turn) → TurnFits w → All ValueFits vs → Keeps (f vs w))
      → Keeps (with_values u xs f)
  unfolding with_values
  keeps_values u [] f k none h = h [] u k none
  keeps_values u (x ∷ xs) f k (more e es) h =
      keeps_value u (λ i. eval i x) _ k
      (fit_eval (evaluator u) u.cells (here_fits u k) k.cells e)
      (λ v w j p. keeps_values w xs _ j es (λ vs y b q. h (v ∷ vs) y b (more p q)))

  keeps_by : (u : Turn) (v : Value) (a b : StepResult) → TurnFits u → Keeps a → Keeps b
      → Keeps (by_condition u v a b)
  keeps_by u (Truth true) a b k f g = f
  keeps_by u (Truth false) a b k f g = g
  keeps_by u (Number m) a b k f g = k.before
  keeps_by u (Cell c) a b k f g = k.before

  -- ---- starts

  keeps_starting : (u : Turn) (m : ℕ) (vs : List Value) (r : StepResult) → TurnFits u
      → (m < length u.program.modules → length vs ≡ length (module_at u.program m).types → room u 1 (here u) ≡ true → length u.state.threads < 64 → Keeps r)
      → Keeps (starting u m vs r)
  unfolding starting
  keeps_starting u m vs r k f =
      let z = k.before in
      if_all Keeps (unlinked_here u) _ _ (λ _. z)
      (λ _. if_all Keeps (leb (length u.program.modules) m) _ _ (λ _. z)
      (λ a. if_all Keeps (not (eqb (length vs) (length (module_at u.program m).types))) _ _ (λ _. z)
      (λ b. if_all Keeps (not (room u 1 (here u))) _ _ (λ _. z)
      (λ c. if_all Keeps (leb 64 (length u.state.threads)) _ _ (λ _. z)
      (λ d. f (leb-false (length u.program.modules) m a) (eqb-true (length vs) (length (module_at u.program m).types) (not-false _ b)) (not-false (room u 1 (here u)) c)
      (leb-false 64 (length u.state.threads) d))))))

  pub started_fits : (u : Turn) (m : ℕ) (vs : List Value) → TurnFits u
      → m < length u.program.modules → length vs ≡ length (module_at u.program m).types
      → All ValueFits vs
      → ThreadFits fs n (started u (module_at u.program m) vs)
  started_fits u m vs k l e v =
      record {
        place = k.self.place;
        starter = k.thread.1;
        items_room = omega arith;
        variables_room = rw e body.1;
        items = more body.0 none;
        values = v;
      }
    where
      body : ItemFits fs n (run (module_at u.program m).body) × (length (module_at u.program m).types ≤ 25)
      body =
          subst (λ (p : Program). m < length p.modules → ItemFits fs n (run (module_at p m).body) × (length (module_at p m).types ≤ 25)) (sym k.program) (F.bodies m) l

  new_is : (u : Turn) → length u.state.threads < 64 → IsThread (new_thread u)
  new_is u l = (omega arith, omega arith)

  pub settled-length : (u : Turn) (x : Thread)
      → length (settled u x).threads ≡ length u.state.threads
  settled-length u x = nth_length u.state.threads u.thread x

  keeps_start : (u : Turn) (m : ℕ) (vs : List Value) → TurnFits u → m < length u.program.modules
      → length vs ≡ length (module_at u.program m).types → All ValueFits vs
      → room u 1 (here u) ≡ true → length u.state.threads < 64
      → Shaped fs n (with_started u m vs (settled u u.self))
  keeps_start u m vs k a b v r l =
      let e = settled-length u u.self in
      let g = has_room u 1 (here u) k.spaces r in
      enlist_fits (with_new (started u (module_at u.program m) vs) (settled u u.self)) (here u)
      (plain (new_thread u))
      (with_new_lem (settled u u.self) _ (keeps_settled u u.self k k.self) (started_fits u m vs k a b v) (omega arith))
      (plain_fits (new_is u l)) g

  keeps_wait : (u : Turn) (m : ℕ) (vs : List Value) → TurnFits u → m < length u.program.modules
      → length vs ≡ length (module_at u.program m).types → All ValueFits vs
      → length u.state.threads < 64 → Keeps (started_wait u m vs)
  unfolding started_wait
  keeps_wait u m vs k a b v l =
      if_all Keeps (room u 2 (here u)) _ _
      (λ r. let g = has_room u 2 (here u) k.spaces r in
      enlist_fits (enlist (here u) (plain (new_thread u)) s) (here u)
      (waiting u.thread (new_thread u))
      (enlist_fits s (here u) (plain (new_thread u)) fit (plain_fits (new_is u l)) (one g))
      (waiting_fits k.thread (new_is u l)) (two g))
      (λ _. k.before)
    where
      s : State
      s = with_new (started u (module_at u.program m) vs) (leave u (settled u u.self))

      fit : Shaped fs n (with_new (started u (module_at u.program m) vs) (leave u (settled u u.self)))
      fit =
          let e = settled-length u u.self in
          let f = ap (length {A = Thread}) (leave_threads u (settled u u.self)) in
          with_new_lem (leave u (settled u u.self)) _ (leave_fits u (settled u u.self) (keeps_settled u u.self k k.self)) (started_fits u m vs k a b v) (omega arith)

      one : length (scheduler_at u.state (here u)).next + 2 ≤ 64
          → length (scheduler_at (with_new (started u (module_at u.program m) vs) (leave u (settled u u.self))) (here u)).next + 1 ≤ 64
      one g = let e = leave_next u (settled u u.self) (here u) in omega arith

      two : length (scheduler_at u.state (here u)).next + 2 ≤ 64
          → length (scheduler_at (enlist (here u) (plain (new_thread u)) (with_new (started u (module_at u.program m) vs) (leave u (settled u u.self)))) (here u)).next + 1 ≤ 64
      two g =
          let e = leave_next u (settled u u.self) (here u) in
          let f = enlist_next (with_new (started u (module_at u.program m) vs) (leave u (settled u u.self))) (here u) (plain (new_thread u)) in
          omega arith

  -- ---- entries that pass a test, and those that do not

  chosen_fit : (test : Entry → Bool) (es : List Entry) → All (EntryFits (frame_at fs 0).c) es
      → All IsThread (threads_where test es)
  unfolding threads_where
  chosen_fit test [] none = none
  chosen_fit test (e ∷ es) (more f fs) = go (test e) (of e f) (chosen_fit test es fs)
    where
      of : {m : ℕ} (e : Entry) → EntryFits m e → IsThread (entry_thread e)
      of (plain t) (plain_fits h) = h
      of (waiting t u) (waiting_fits h g) = h
      of (awaiting t e) (awaiting_fits h g) = h

      go : {t : ℕ} {l : List ℕ} (b : Bool) → IsThread t → All IsThread l
          → All IsThread (keep_if b t l)
      go true p ps = more p ps
      go false p ps = ps

  others_fit : (test : Entry → Bool) (es : List Entry) → All (EntryFits (frame_at fs 0).c) es
      → All (EntryFits (frame_at fs 0).c) (entries_except test es)
  unfolding entries_except
  others_fit test [] none = none
  others_fit test (e ∷ es) (more f fs) = go (not (test e)) f (others_fit test es fs)
    where
      go : {m : ℕ} {e : Entry} {l : List Entry} (b : Bool) → EntryFits m e → All (EntryFits m) l
          → All (EntryFits m) (keep_if b e l)
      go true p ps = more p ps
      go false p ps = ps

  -- ---- events

  with_present_lem : (s : State) (l : List Bool) → Shaped fs n s → length l ≡ length s.present
      → Shaped fs n (with_present l s)
  with_present_lem s l z e =
      record {
        threads_room = z.threads_room;
        schedulers_room = z.schedulers_room;
        cells_room = z.cells_room;
        events_room = rw e z.events_room;
        events = e ∙ z.events;
        count = z.count;
        threads = z.threads;
        schedulers = z.schedulers;
        cells = z.cells;
      }

  wake_fits : (s : State) (q e : ℕ) → Shaped fs n s
      → length (scheduler_at s q).active + length (threads_where (is_awaiting e) (scheduler_at s q).next) ≤ 64
      → Shaped fs n (wake q e s)
  unfolding wake
  wake_fits s q e z r =
      let x = scheduler_fits s z q in
      let es = (scheduler_at s q).next in
      let l = length-append (scheduler_at s q).active (threads_where (is_awaiting e) es) in
      let p = parted (is_awaiting e) es in
      let m = x.next_room in
      with_scheduler_lem s q _ z
      (record { active_room = omega arith; next_room = omega arith; threads = all_append x.threads (chosen_fit (is_awaiting e) es x.entries); entries = others_fit (is_awaiting e) es x.entries })

  pub awake_room_on : (u : Turn) (e q : ℕ) → u.spaces ≡ state_spaces → room_to_wake_on u e q ≡ true
      → awake_on e (scheduler_at u.state q) ≤ 64
  unfolding room_to_wake_on
  awake_room_on u e q s h =
      let l = awake_on e (scheduler_at u.state q) in
      let g = leb-true l _ (sym (ap (λ (z : Spaces). holds z.entries l) s) ∙ h) in
      omega arith

  -- each member has room, and has it still when others were woken
  woken_fits : (qs : List ℕ) (e : ℕ) (s : State) → Shaped fs n s
      → All (λ (q : ℕ). awake_on e (scheduler_at s q) ≤ 64) qs → Shaped fs n (wake_on_each qs e s)
  unfolding wake_on_each
  woken_fits [] e s z none = z
  woken_fits (q ∷ qs) e s z (more r a) =
      woken_fits qs e (wake q e s) (wake_fits s q e z r)
      (all_imply {Q = λ (k : ℕ). awake_on e (scheduler_at (wake q e s) k) ≤ 64}
      (λ k l. subst (λ (m : ℕ). m ≤ 64) (sym (woken_load q e s k)) l) a)

  keeps_signalling : (u : Turn) (e : ℕ) (b : Bool) (r : Turn → StepResult) → TurnFits u
      → (e < length u.program.events → b ≡ true → unlinked_here u ≡ false → Keeps (r (with_signal u e)))
      → Keeps (signalling u e b r)
  unfolding signalling
  keeps_signalling u e b r k g =
      if_all Keeps (leb (length u.program.events) e) _ _ (λ _. k.before)
      (λ a. if_all Keeps (not b) _ _ (λ _. k.before)
      (λ c. if_all Keeps (is_own_event u e) _ _
      (λ q. g (leb-false (length u.program.events) e a) (not-false b c) (own_linked u e q))
      (λ _. k.before)))

  keeps_generate : (u : Turn) (e : ℕ) → TurnFits u → Keeps (step_generate u e)
  unfolding step_generate room_to_wake
  keeps_generate u e k =
      let qs = event_group u.program e in
      let s = settled u u.self in
      keeps_signalling u e (room_to_wake u e) _ k
      (λ l r j. with_present_lem (wake_on_each qs e s) (set u.state.present e true)
      (woken_fits qs e s (keeps_settled u u.self k k.self) (rooms r))
      (length-set u.state.present e true ∙ ap length (sym (woken_present qs e s))))
    where
      rooms : room_to_wake u e ≡ true
          → All (λ (q : ℕ). awake_on e (scheduler_at u.state q) ≤ 64) (event_group u.program e)
      rooms r =
          all_imply {Q = λ (q : ℕ). awake_on e (scheduler_at u.state q) ≤ 64}
          (λ q h. awake_room_on u e q k.spaces h)
          (every_each (room_to_wake_on u e) (event_group u.program e) r)

  keeps_await : (u : Turn) (e : ℕ) → TurnFits u → Keeps (step_await u e)
  unfolding step_await
  keeps_await u e k =
      keeps_signalling u e (is_present u.state e || unlinked_here u || room u 1 (here u)) _ k
      (λ l r j. if_all Keeps (is_present u.state e) _ _
      (λ _. keeps_settled u u.self k k.self)
      (λ f. absent l (roomy (is_present u.state e) (unlinked_here u) (room u 1 (here u)) f j r)))
    where
      roomy : (a l b : Bool) → a ≡ false → l ≡ false → (a || l || b) ≡ true → b ≡ true
      roomy false false b e f h = h
      roomy false true b e f h = absurd (true≢false f)
      roomy true l b e f h = absurd (true≢false e)

      absent : e < length u.program.events → room u 1 (here u) ≡ true
          → Shaped fs n (enlist (here u) (awaiting u.thread e) (leave (with_signal u e) (settled (with_signal u e) (thread_at u.state u.thread))))
      absent l r =
          let v = with_signal u e in
          let y = thread_at u.state u.thread in
          let z = settled_fits u y k.before k.cells (λ i q l. subst (λ (t : ℕ). ThreadFits fs n (thread_at u.state t)) (sym q) (k.before.threads i l)) in
          let g = has_room u 1 (here u) k.spaces r in
          let d = leave_next v (settled v y) (here u) in
          let m : e < (frame_at fs 0).c = subst (λ (i : ℕ). e < i) F.events (subst (λ (p : Program). e < length p.events) k.program l) in
          enlist_fits (leave v (settled v y)) (here u) (awaiting u.thread e) (leave_fits v (settled v y) z) (awaiting_fits k.thread m) (omega arith)

  cleared_length : (c : ℕ → Bool) (os : List ℕ) (bs : List Bool)
      → length (without_events_of c os bs) ≡ length bs
  unfolding without_events_of
  cleared_length c [] bs = refl
  cleared_length c (o ∷ os) [] = refl
  cleared_length c (o ∷ os) (b ∷ bs) = ap suc (cleared_length c os bs)

  -- ---- each statement, each item, each thread

  keeps_statement : (u : Turn) (x : Stmt) → TurnFits u → ItemFits fs n (run x) → Parts fs n x
      → Keeps (step_statement u x)
  unfolding step_nothing step_seq step_do step_start step_start_wait step_cooperate step_let step_store step_if step_while
  keeps_statement u x k i of_nothing = keeps_stay u _ _ k k.self.items k.self.values
  keeps_statement u x k i (of_seq a b) =
      keeps_stay u _ _ k (more a (more b k.self.items)) k.self.values
  keeps_statement u x k i (of_do {q = q} p a) =
      if_all Keeps (unlinked_here u && eqb q 1) _ _ (λ _. k.before)
      (λ _. keeps_go_to u q _ k p (more a (more (back_fits (place_small (here u) k.self.place) k.self.place) k.self.items)))
  keeps_statement u x k i (of_start {m = m} {xs = xs} es) =
      keeps_values u xs _ k es
      (λ vs w j v. keeps_starting w m vs _ j (λ a b r l. keeps_start w m vs j a b v r l))
  keeps_statement u x k i (of_wait {m = m} {xs = xs} es) =
      keeps_values u xs _ k es
      (λ vs w j v. keeps_starting w m vs _ j (λ a b r l. keeps_wait w m vs j a b v l))
  keeps_statement u x k i of_cooperate =
      if_all Keeps (unlinked_here u) _ _ (λ _. k.before)
      (λ _. if_all Keeps (room u 1 (here u)) _ _
      (λ r. let e = leave_next u (settled u u.self) (here u) in let g = has_room u 1 (here u) k.spaces r in
      enlist_fits (leave u (settled u u.self)) (here u) (plain u.thread) (leave_fits u (settled u u.self) (keeps_settled u u.self k k.self)) (plain_fits k.thread) (omega arith))
      (λ _. k.before))
  keeps_statement u x k i (of_generate {e = e}) = keeps_generate u e k
  keeps_statement u x k i (of_await {e = e}) = keeps_await u e k
  keeps_statement u x k i (of_let {x = y} e a) =
      keeps_value u (λ h. eval h y) _ k
      (fit_eval (evaluator u) u.cells (here_fits u k) k.cells e)
      (λ v w j p. keeps_stay w _ _ j (more a (more drop_fits j.self.items)) (all_append j.self.values (more p none)))
  keeps_statement u x k i (of_store {x = y} {y = y'} e g) =
      keeps_value u (λ h. storing h y y') _ k
      (fit_storing (evaluator u) u.cells (here_fits u k) k.cells e g)
      (λ v w j p. keeps_stay w _ _ j j.self.items j.self.values)
  keeps_statement u x k i (of_if {x = y} e a b) =
      keeps_value u (λ h. eval h y) _ k
      (fit_eval (evaluator u) u.cells (here_fits u k) k.cells e)
      (λ v w j p. keeps_by w v _ _ j (keeps_stay w _ _ j (more a j.self.items) j.self.values) (keeps_stay w _ _ j (more b j.self.items) j.self.values))
  keeps_statement u x k i (of_while {x = y} e a) =
      keeps_value u (λ h. eval h y) _ k
      (fit_eval (evaluator u) u.cells (here_fits u k) k.cells e)
      (λ v w j p. keeps_by w v _ _ j (keeps_stay w _ _ j (more a (more i j.self.items)) j.self.values) (keeps_stay w _ _ j j.self.items j.self.values))

  -- the thread ends, whether it is there or not
  keeps_ends : (s : State) (c t : ℕ) → Shaped fs n s → Keeps (step_items P s c t [])
  unfolding ends
  keeps_ends s c t z =
      leave_fits (turn P s c t []) _
      (settled_fits (turn P s c t []) _ z (record { room = z.cells_room; each = z.cells })
      (λ i e l. let f : ThreadFits fs n (thread_at s t) = subst (λ (j : ℕ). ThreadFits fs n (thread_at s j)) (sym e) (z.threads i l) in
      record { place = f.place; starter = f.starter; items_room = omega arith; variables_room = f.variables_room; items = none; values = f.values }))

  turn_fits : (s : State) (c t : ℕ) (items : List Item) → Shaped fs n s → IsThread t
      → ThreadFits fs n (thread_at s t) → All (ItemFits fs n) items → length items ≤ 25
      → TurnFits (turn P s c t items)
  turn_fits s c t items z h f is l =
      record {
        before = z;
        cells = record { room = z.cells_room; each = z.cells };
        thread = h;
        self = record { place = f.place; starter = f.starter; items_room = l; variables_room = f.variables_room; items = is; values = f.values };
        program = refl;
        spaces = refl;
      }

  -- the acting thread is there, and this is its continuation
  keeps_items : (s : State) (c t : ℕ) (items : List Item) → Shaped fs n s → IsThread t
      → ThreadFits fs n (thread_at s t) → All (ItemFits fs n) items → length items ≤ 25
      → Keeps (step_items P s c t items)
  unfolding drops goes_back
  keeps_items s c t [] z h f none l = keeps_ends s c t z
  keeps_items s c t (run x ∷ items) z h f (more i is) l = keeps_statement (turn P s c t items) x (turn_fits s c t items z h f is (omega arith)) i (parts_of i)
  keeps_items s c t (back q ∷ items) z h f (more (back_fits a p) is) l =
      keeps_go_to (turn P s c t items) q _ (turn_fits s c t items z h f is (omega arith)) p is
  keeps_items s c t (drop ∷ items) z h f (more i is) l =
      if_all Keeps (eqb (length (thread_at s t).variables) 0) _ _ (λ _. z)
      (λ _. keeps_stay (turn P s c t items) _ _ (turn_fits s c t items z h f is (omega arith)) is (all_take (length (thread_at s t).variables - 1) (thread_at s t).variables f.values))

  keeps_thread : (s : State) (c t : ℕ) → Shaped fs n s → IsThread t → Keeps (step_thread P s c t)
  unfolding step_thread_within
  keeps_thread s c zero z h = keeps_ends s c 0 z
  keeps_thread s c (suc i) z h = go (ltb i (length s.threads)) refl
    where
      go : (b : Bool) → ltb i (length s.threads) ≡ b
          → Keeps (step_items P s c (suc i) (thread_at s (suc i)).continuation)
      go true e =
          let f = z.threads i (ltb-true i (length s.threads) e) in
          keeps_items s c (suc i) (thread_at s (suc i)).continuation z h f f.items
          f.items_room
      go false e =
          let q : thread_at s (suc i) ≡ no_thread = get_or-eq_default s.threads no_thread {n = i} (ltb-false i (length s.threads) e) in
          subst (λ (l : List Item). Keeps (step_items P s c (suc i) l))
          (sym (ap (λ (x : Thread). x.continuation) q)) (keeps_ends s c (suc i) z)

  -- ---- the end of an instant

  end_fits : (q : ℕ) (s : State) → Shaped fs n s → Shaped fs n (end_on q s)
  unfolding end_on
  end_fits q s z =
      let es = (scheduler_at s q).next in
      let x = scheduler_fits s z q in
      let l = parted (is_ready s.threads) es in
      let m = x.next_room in
      with_scheduler_lem s q _ z
      (record { active_room = omega arith; next_room = omega arith; threads = chosen_fit (is_ready s.threads) es x.entries; entries = others_fit (is_ready s.threads) es x.entries })

  ended_fits : (qs : List ℕ) (s : State) → Shaped fs n s → Shaped fs n (end_on_each qs s)
  unfolding end_on_each
  ended_fits [] s z = z
  ended_fits (q ∷ qs) s z = ended_fits qs (end_on q s) (end_fits q s z)

  keeps_scheduler : (s : State) (c : ℕ) (ts : List ℕ) → Shaped fs n s → All IsThread ts
      → Keeps (step_scheduler P s c ts)
  unfolding end_instant
  keeps_scheduler s c [] z a =
      let qs = members P c in
      if_all Keeps _ _ _ (λ _. z) (λ _. if_all Keeps _ _ _ (λ _. z)
      (λ _. with_present_lem (end_on_each qs s) _ (ended_fits qs s z)
      (cleared_length (in_step P.links c) P.events s.present ∙ ap length (sym (ended_present qs s)))))
  keeps_scheduler s c (t ∷ ts) z (more h a) = keeps_thread s c t z h

  pub unlinked_is : (s : State) (c : ℕ) → Shaped fs n s → is_unlinked s c ≡ true → IsThread (c - 16)
  unfolding is_unlinked
  unlinked_is s c z e =
      let a = (and_true _ (not (thread_at s (c - 16)).ended) e).0 in
      let b = (and_true (leb 17 c && leb (c - 16) (length s.threads)) (eqb (thread_at s (c - 16)).place 1) a).0 in
      let d = and_true (leb 17 c) (leb (c - 16) (length s.threads)) b in
      let l = leb-true 17 c d.0 in
      let m = leb-true (c - 16) (length s.threads) d.1 in
      let r = z.threads_room in
      (omega arith, omega arith)

  -- ---- each choice, and the states reached

  -- whatever state in shape it is put to
  pub keeps_step : (s : State) (c : ℕ) → Shaped fs n s → Shaped fs n (step P s c).state
  unfolding step_within
  keeps_step s c z =
      if_all Keeps (is_scheduler_of P c) _ _
      (λ _. keeps_scheduler s c (scheduler_at s c).active z (scheduler_fits s z c).threads)
      (λ _. if_all Keeps (is_unlinked s c) _ _ (λ e. keeps_thread s c (c - 16) z (unlinked_is s c z e)) (λ _. z))

  keeps_from : (s : State) (cs : List ℕ) → Shaped fs n s → Shaped fs n (state_from P s cs)
  unfolding last_from
  keeps_from s [] z = z
  keeps_from s (c ∷ cs) z = keeps_from (step P s c).state cs (keeps_step s c z)

  pub fresh_shaped : Shaped fs n (fresh P)
  unfolding fresh
  fresh_shaped =
      let b = F.bodies (length P.modules - 1) (let k = F.some_module in omega arith) in
      let one = F.some_scheduler in
      let most = F.most_schedulers in
      let eq = F.schedulers in
      let long = length-replicate (P.schedulers - 1) no_scheduler in
      record {
        threads_room = omega arith;
        schedulers_room = omega arith;
        cells_room = rw (length-map P.shared first_cell) F.shared_room;
        events_room = rw (length-replicate (length P.events) false) F.few_events;
        events = length-replicate (length P.events) false ∙ F.events;
        count = omega arith;
        threads = λ k g. main k g b.0;
        schedulers = λ k g. lists k (P.schedulers - 1);
        cells = λ k g. all_get_d (CellFits n) (map first_cell P.shared) no_cell k (all_map (λ (x : SharedCell). CellFits n (first_cell x)) (CellFits n) first_cell (λ _ p. p) P.shared F.shared) g;
      }
    where
      home_fits : has_place n 2 ≡ true
      home_fits = let o = F.some_scheduler in le-leb 2 (1 + n) (omega arith)

      main : (k : ℕ) → k < 1 → ItemFits fs n (run (main_of P).body)
          → ThreadFits fs n (get_or (main_thread P ∷ []) k no_thread)
      main zero g i = record { place = home_fits; starter = omega arith; items_room = omega arith; variables_room = omega arith; items = more i none; values = none }
      main (suc k) g i = absurd (omega arith)

      idle : (j k : ℕ) → SchedulerFits (frame_at fs 0).c (get_or (replicate k no_scheduler) j no_scheduler)
      idle j zero = none_fits
      idle zero (suc k) = none_fits
      idle (suc j) (suc k) = idle j k

      lists : (j k : ℕ)
          → SchedulerFits (frame_at fs 0).c (get_or (home_scheduler ∷ replicate k no_scheduler) j no_scheduler)
      lists zero k = record { active_room = omega arith; next_room = omega arith; threads = more {x = 1} (omega arith, omega arith) none; entries = none }
      lists (suc j) k = idle j k

  pub reached_shaped : (cs : List ℕ) → Shaped fs n (state_after P cs)
  reached_shaped cs = keeps_from (fresh P) cs fresh_shaped

  -- 'a state reached from a fresh one is never 14'
  pub reached_in_range : (cs : List ℕ) → in_range fs n (pack (state_after P cs)) ≡ true
  reached_in_range cs = shaped_in_range fs n (state_after P cs) (reached_shaped cs)
