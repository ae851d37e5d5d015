-- What a choice does to the threads, on every state, whatever its spaces: the law `chose`. Nobody
-- acts and the threads stay; or a thread takes its top item; or a thread without an item ends.
-- Assumes nothing.
use mathlib.Core.Path.{◌≡◌, refl, ap, subst, ◌∙◌}
use mathlib.Core.List.{List, [], ◌∷◌, ◌++◌}
use mathlib.Core.Bool.{true, false, not, ◌&&◌}
use mathlib.Core.Bool.{Bool}
use Prim.Native.Nat.{ℕ, ◌<◌}
use native.Mathlib.Omega.{arith}
use lib.Dec.{leb, eqb}
use lib.ListN.{length}
use borrow.Author.Tests.{leb-false}
use Rattle.basics.proofs.Ifs.{if_all}
use Rattle.language.specs.Limits.{most_threads}
use Rattle.language.specs.Refusals.{cells_spent, threads_spent, foreign, stuck}
use Rattle.language.specs.Places.{private}
use Rattle.program.specs.Trees.{Expr, Stmt, nothing, seq, do_at, start, start_wait, cooperate}
use Rattle.program.specs.Trees.{let_in, store, if_else, while}
use Rattle.program.specs.Trees.{generate, await}
use Rattle.program.specs.Programs.{Program, module_at}
use Rattle.machine.specs.State.{State, Item, run, back, drop, Thread, thread_at}
use Rattle.machine.specs.State.{scheduler_at, set_nth}
use Rattle.machine.specs.State.{nth, is_present}
use Rattle.machine.specs.Evaluation.{Here, EvalResult, Evaluation, eval, storing}
use Rattle.machine.specs.Turns.{Spaces, StepResult, Turn, here, continuation, variables, refuse}
use Rattle.machine.specs.Turns.{after_eval, evaluator, go_on, with_value, with_values, by_condition}
use Rattle.machine.specs.Turns.{is_scheduler_of, settled, room, fits, unlinked_here, stay, move}
use Rattle.machine.specs.Turns.{go_to}
use Rattle.machine.specs.Statements.{ends, drops, goes_back, step_nothing, step_seq, step_do}
use Rattle.machine.specs.Statements.{started, starting, step_start, started_wait, step_start_wait}
use Rattle.machine.specs.Statements.{step_cooperate, step_let, step_store, step_if, step_while}
use Rattle.machine.specs.Statements.{step_statement}
use Rattle.machine.specs.Statements.{with_signal, is_own_event, signalling, event_group}
use Rattle.machine.specs.Statements.{step_generate}
use Rattle.machine.specs.Statements.{step_await}
use Rattle.machine.specs.Steps.{turn_within, step_items_within, step_thread_within}
use Rattle.machine.proofs.GroupLaws.{woken_threads, ended_threads}
use Rattle.machine.specs.Steps.{end_instant, step_scheduler_within, is_unlinked, step_within}
use Rattle.machine.specs.declared.value.Value.{Value}
use Rattle.machine.specs.declared.value.Value.TheVariants.{Number, Truth, Cell}
use Rattle.machine.specs.declared.value.Outcome.{Outcome}
use Rattle.machine.specs.declared.value.Outcome.TheVariants.{Is, Foreign, Spent, Stuck}
use Rattle.machine.proofs.Space.{leave_threads, enlist_threads}

-- ---- what a choice can do

-- the items that a top item leaves in its place, where the thread goes on at once
pub data Goes : Item → List Item → Type 0 where
  g_nothing : {i : ℕ} → Goes (run (nothing i)) []
  g_seq : {i : ℕ} {a b : Stmt} → Goes (run (seq i a b)) (run a ∷ run b ∷ [])
  g_do : {i q p : ℕ} {a : Stmt} → Goes (run (do_at i q a)) (run a ∷ back p ∷ [])
  g_start : {i m : ℕ} {xs : List Expr} → Goes (run (start i m xs)) []
  g_let : {i : ℕ} {x : Expr} {a : Stmt} → Goes (run (let_in i x a)) (run a ∷ drop ∷ [])
  g_store : {i : ℕ} {x y : Expr} → Goes (run (store i x y)) []
  g_then : {i : ℕ} {x : Expr} {a b : Stmt} → Goes (run (if_else i x a b)) (run a ∷ [])
  g_else : {i : ℕ} {x : Expr} {a b : Stmt} → Goes (run (if_else i x a b)) (run b ∷ [])
  g_again : {i : ℕ} {x : Expr} {a : Stmt}
      → Goes (run (while i x a)) (run a ∷ run (while i x a) ∷ [])
  g_out : {i : ℕ} {x : Expr} {a : Stmt} → Goes (run (while i x a)) []
  g_generate : {i e : ℕ} → Goes (run (generate i e)) []
  g_await : {i e : ℕ} → Goes (run (await i e)) []
  g_back : {q : ℕ} → Goes (back q) []
  g_drop : Goes drop []

-- the items at which the thread pauses: 14, 15
pub data Pauses : Item → Type 0 where
  p_cooperate : {i : ℕ} → Pauses (run (cooperate i))
  p_wait : {i m : ℕ} {xs : List Expr} → Pauses (run (start_wait i m xs))

module _ (P : Program) where
  -- a thread that a start makes: it has the body of a module of the file to run
  pub record Started (x : Thread) : Type 0 where
    pub which : ℕ
    pub there : which < length P.modules
    pub body : x.continuation ≡ run (module_at P which).body ∷ []

  -- the threads, with x as thread t, and at most one more, just started
  pub data Become (ts : List Thread) (t : ℕ) (x : Thread) : List Thread → Type 0 where
    only : {us : List Thread} → us ≡ set_nth ts t x → Become ts t x us
    one_more : {us : List Thread} (y : Thread) → Started y → us ≡ set_nth ts t x ++ (y ∷ [])
        → Become ts t x us

  -- what r says of the turn of thread t, whose top item was i above l: refused, and the threads
  -- stay; or the rest lies under what the item leaves; or the thread pauses, the rest left; or it
  -- awaits an event and is as it was
  pub data Did (ts : List Thread) (t : ℕ) (i : Item) (l : List Item) (r : StepResult) : Type 0 where
    refused : r.thread ≡ t → r.state.threads ≡ ts → (r.answer ≡ 0 → ⊥) → Did ts t i l r
    went : r.thread ≡ t → r.answer ≡ 0 → (top : List Item) (x : Thread) → Goes i top
        → x.continuation ≡ top ++ l → Become ts t x r.state.threads → Did ts t i l r
    paused : r.thread ≡ t → r.answer ≡ 0 → (x : Thread) → Pauses i
        → x.continuation ≡ l → Become ts t x r.state.threads → Did ts t i l r
    awaits : {j e : ℕ} → r.thread ≡ t → r.answer ≡ 0 → i ≡ run (await j e)
        → Become ts t (nth ts t) r.state.threads → Did ts t i l r

  -- what r says of a choice on s
  pub data Chose (s : State) (r : StepResult) : Type 0 where
    nobody_acts : r.thread ≡ 0 → r.state.threads ≡ s.threads → Chose s r
    takes : (t : ℕ) (i : Item) (l : List Item) → (thread_at s t).continuation ≡ i ∷ l
        → Did s.threads t i l r → Chose s r
    finishes : (t : ℕ) (x : Thread) → r.thread ≡ t → r.answer ≡ 0
        → (thread_at s t).continuation ≡ [] → x.continuation ≡ [] → x.ended ≡ true
        → r.state.threads ≡ set_nth s.threads t x → Chose s r

  -- ---- each way in which a turn ends

  abbrev DidIn : Turn → Item → StepResult → Type 0
  DidIn u i r = Did u.state.threads u.thread i (continuation u) r

  -- after any evaluations the turn is the same but for its cells and accesses
  record Same (u w : Turn) : Type 0 where
    pub state : w.state ≡ u.state
    pub thread : w.thread ≡ u.thread
    pub self : w.self ≡ u.self
    pub program : w.program ≡ u.program

  same_self : (u : Turn) → Same u u
  same_self u = record { state = refl; thread = refl; self = refl; program = refl }

  same_after : {u w : Turn} (e : EvalResult) → Same u w → Same u (after_eval w e)
  same_after e s =
      record { state = s.state; thread = s.thread; self = s.self; program = s.program }

  did_refuse : (u w : Turn) (i : Item) (n : ℕ) → Same u w → (n ≡ 0 → ⊥) → DidIn u i (refuse w n)
  did_refuse u w i n s z = refused s.thread (ap (λ (q : State). q.threads) s.state) z

  did_stuck : (u : Turn) (i : Item) → DidIn u i (refuse u stuck)
  did_stuck u i = did_refuse u u i stuck (same_self u) (λ e. omega (arith, e))

  did_stay : (u : Turn) (i : Item) (top : List Item) (vars : List Value) → Goes i top
      → DidIn u i (stay u (top ++ continuation u) vars)
  unfolding stay
  did_stay u i top vars g =
      if_all (DidIn u i) (fits u.spaces (top ++ continuation u) vars) _ _
      (λ _. went refl refl top _ g refl (only refl)) (λ _. did_stuck u i)

  did_move : (u : Turn) (i : Item) (q : ℕ) (top : List Item) → Goes i top
      → DidIn u i (move u q (top ++ continuation u))
  unfolding move
  did_move u i q top g =
      if_all (DidIn u i) (not (fits u.spaces (top ++ continuation u) (variables u))) _ _
      (λ _. did_stuck u i)
      (λ _. if_all (DidIn u i) (eqb q private) _ _
      (λ _. went refl refl top _ g refl (only (leave_threads u _)))
      (λ _. if_all (DidIn u i) (room u 1 q) _ _
      (λ _. went refl refl top _ g refl (only (enlist_threads q _ _ ∙ leave_threads u _)))
      (λ _. did_stuck u i)))

  did_go_to : (u : Turn) (i : Item) (q : ℕ) (top : List Item) → Goes i top
      → DidIn u i (go_to u q (top ++ continuation u))
  unfolding go_to
  did_go_to u i q top g =
      if_all (DidIn u i) (eqb q (here u)) _ _
      (λ _. did_stay u i top (variables u) g) (λ _. did_move u i q top g)

  -- ---- after values

  did_go_on : (u w : Turn) (i : Item) (o : Outcome) (k : Value → Turn → StepResult) → Same u w
      → ((a : Value) → DidIn u i (k a w)) → DidIn u i (go_on w o k)
  did_go_on u w i (Is a) k s h = h a
  did_go_on u w i Foreign k s h = did_refuse u w i foreign s (λ e. omega (arith, e))
  did_go_on u w i Spent k s h = did_refuse u w i cells_spent s (λ e. omega (arith, e))
  did_go_on u w i Stuck k s h = did_refuse u w i stuck s (λ e. omega (arith, e))

  did_value : (u : Turn) (i : Item) (m : Here → Evaluation) (k : Value → Turn → StepResult)
      → ((e : EvalResult) (a : Value) → DidIn u i (k a (after_eval u e)))
      → DidIn u i (with_value u m k)
  did_value u i m k h =
      let r : EvalResult = m (evaluator u) u.cells in
      did_go_on u (after_eval u r) i r.outcome k (same_after r (same_self u)) (h r)

  did_values : (u w : Turn) (i : Item) (xs : List Expr) (k : List Value → Turn → StepResult)
      → Same u w → ((vs : List Value) (y : Turn) → Same u y → DidIn u i (k vs y))
      → DidIn u i (with_values w xs k)
  unfolding with_values
  did_values u w i [] k s h = h [] w s
  did_values u w i (x ∷ xs) k s h =
      let e : EvalResult = eval (evaluator w) x w.cells in
      let t = same_after e s in
      did_go_on u (after_eval w e) i e.outcome _ t
      (λ a. did_values u (after_eval w e) i xs _ t (λ vs y q. h (a ∷ vs) y q))

  did_by : (u : Turn) (i : Item) (w : Value) (a b : StepResult) → DidIn u i a → DidIn u i b
      → DidIn u i (by_condition u w a b)
  did_by u i (Truth true) a b f g = f
  did_by u i (Truth false) a b f g = g
  did_by u i (Number n) a b f g = did_stuck u i
  did_by u i (Cell c) a b f g = did_stuck u i

  -- ---- a start: the acting thread as it is, and one more

  did_starting : (u w : Turn) (i : Item) (m : ℕ) (vs : List Value) (r : StepResult) → Same u w
      → w.program ≡ P → (m < length P.modules → DidIn u i r) → DidIn u i (starting w m vs r)
  unfolding starting
  did_starting u w i m vs r s p h =
      let no = did_refuse u w i stuck s (λ e. omega (arith, e)) in
      let few = length w.program.modules in
      if_all (DidIn u i) (unlinked_here w) _ _ (λ _. no)
      (λ _. if_all (DidIn u i) (leb few m) _ _ (λ _. no)
      (λ b. if_all (DidIn u i) (not (eqb (length vs) (length (module_at w.program m).types))) _ _
      (λ _. no)
      (λ _. if_all (DidIn u i) (not (room w 1 (here w))) _ _ (λ _. no)
      (λ _. if_all (DidIn u i) (leb most_threads (length w.state.threads)) _ _
      (λ _. did_refuse u w i threads_spent s (λ e. omega (arith, e)))
      (λ _. h (subst (λ (q : Program). m < length q.modules) p (leb-false few m b)))))))

  started_one : (w : Turn) (m : ℕ) (x : Thread) → m < length P.modules → w.program ≡ P
      → x.continuation ≡ run (module_at w.program m).body ∷ [] → Started x
  started_one w m x l p e =
      record {
        which = m;
        there = l;
        body = e ∙ ap (λ (q : Program). run (module_at q m).body ∷ []) p;
      }

  same_threads : {u w : Turn} → Same u w → (us : List Thread)
      → us ≡ set_nth w.state.threads w.thread w.self
      → us ≡ set_nth u.state.threads u.thread u.self
  same_threads {u} {w} s us e =
      e ∙ ap (λ (q : State). set_nth q.threads w.thread w.self) s.state
      ∙ ap (λ (t : ℕ). set_nth u.state.threads t w.self) s.thread
      ∙ ap (λ (x : Thread). set_nth u.state.threads u.thread x) s.self

  did_start : (u : Turn) (i m : ℕ) (xs : List Expr) → u.program ≡ P
      → DidIn u (run (start i m xs)) (step_start u m xs)
  unfolding step_start
  did_start u i m xs p =
      did_values u u _ xs _ (same_self u)
      (λ vs y s. did_starting u y _ m vs _ s (s.program ∙ p)
      (λ l. let new = started y (module_at y.program m) vs in
      went s.thread refl [] u.self g_start refl
      (one_more new (started_one y m _ l (s.program ∙ p) refl)
      (enlist_threads _ _ _
      ∙ ap (λ (ts : List Thread). ts ++ (new ∷ [])) (same_threads s _ refl)))))

  did_wait : (u : Turn) (i m : ℕ) (xs : List Expr) → u.program ≡ P
      → DidIn u (run (start_wait i m xs)) (step_start_wait u m xs)
  unfolding step_start_wait started_wait
  did_wait u i m xs p =
      did_values u u _ xs _ (same_self u)
      (λ vs y s. did_starting u y _ m vs _ s (s.program ∙ p)
      (λ l. let new = started y (module_at y.program m) vs in
      if_all (DidIn u (run (start_wait i m xs))) (room y 2 (here y)) _ _
      (λ _. paused s.thread refl u.self p_wait refl
      (one_more new (started_one y m _ l (s.program ∙ p) refl)
      (enlist_threads _ _ _ ∙ enlist_threads _ _ _
      ∙ ap (λ (ts : List Thread). ts ++ (new ∷ [])) (leave_threads y _ ∙ same_threads s _ refl))))
      (λ _. did_refuse u y _ stuck s (λ e. omega (arith, e)))))

  -- ---- events

  did_signalling : (u : Turn) (i : Item) (e : ℕ) (b : Bool) (r : Turn → StepResult)
      → DidIn u i (r (with_signal u e)) → DidIn u i (signalling u e b r)
  unfolding signalling
  did_signalling u i e b r h =
      if_all (DidIn u i) (leb (length u.program.events) e) _ _ (λ _. did_stuck u i)
      (λ _. if_all (DidIn u i) (not b) _ _ (λ _. did_stuck u i)
      (λ _. if_all (DidIn u i) (is_own_event u e) _ _ (λ _. h)
      (λ _. refused refl refl (λ z. omega (arith, z)))))

  did_generate : (u : Turn) (i e : ℕ) → DidIn u (run (generate i e)) (step_generate u e)
  unfolding step_generate
  did_generate u i e =
      did_signalling u _ e _ _
      (went refl refl [] u.self g_generate refl
      (only (woken_threads (event_group u.program e) e (settled u u.self))))

  did_await : (u : Turn) (i e : ℕ) → DidIn u (run (await i e)) (step_await u e)
  unfolding step_await
  did_await u i e =
      did_signalling u _ e _ _
      (if_all (DidIn u (run (await i e))) (is_present u.state e) _ _
      (λ _. went refl refl [] u.self g_await refl (only refl))
      (λ _. awaits refl refl refl
      (only (enlist_threads _ _ _ ∙ leave_threads (with_signal u e) _))))

  -- ---- each statement, each item

  did_statement : (u : Turn) (x : Stmt) → u.program ≡ P → DidIn u (run x) (step_statement u x)
  unfolding step_nothing step_seq step_do step_cooperate step_let step_store step_if step_while
  did_statement u (nothing i) p = did_stay u _ [] _ g_nothing
  did_statement u (seq i a b) p = did_stay u _ (run a ∷ run b ∷ []) _ g_seq
  did_statement u (do_at i q a) p =
      if_all (DidIn u (run (do_at i q a))) (unlinked_here u && eqb q private) _ _
      (λ _. did_stuck u _) (λ _. did_go_to u _ q (run a ∷ back (here u) ∷ []) g_do)
  did_statement u (start i m xs) p = did_start u i m xs p
  did_statement u (start_wait i m xs) p = did_wait u i m xs p
  did_statement u (cooperate i) p =
      if_all (DidIn u (run (cooperate i))) (unlinked_here u) _ _ (λ _. did_stuck u _)
      (λ _. if_all (DidIn u (run (cooperate i))) (room u 1 (here u)) _ _
      (λ _. paused refl refl u.self p_cooperate refl
      (only (enlist_threads _ _ _ ∙ leave_threads u _)))
      (λ _. did_stuck u _))
  did_statement u (let_in i x a) p =
      did_value u _ (λ e. eval e x) _
      (λ e w. did_stay (after_eval u e) _ (run a ∷ drop ∷ []) _ g_let)
  did_statement u (store i x y) p =
      did_value u _ (λ e. storing e x y) _ (λ e w. did_stay (after_eval u e) _ [] _ g_store)
  did_statement u (if_else i x a b) p =
      did_value u _ (λ e. eval e x) _
      (λ e w. did_by (after_eval u e) _ w _ _
      (did_stay (after_eval u e) _ (run a ∷ []) _ g_then)
      (did_stay (after_eval u e) _ (run b ∷ []) _ g_else))
  did_statement u (while i x a) p =
      did_value u _ (λ e. eval e x) _
      (λ e w. did_by (after_eval u e) _ w _ _
      (did_stay (after_eval u e) _ (run a ∷ run (while i x a) ∷ []) _ g_again)
      (did_stay (after_eval u e) _ [] _ g_out))
  did_statement u (generate i e) p = did_generate u i e
  did_statement u (await i e) p = did_await u i e

  -- ---- each choice, in a state of the spaces z

  module _ (z : Spaces) where
    pub did_items : (s : State) (c t : ℕ) (i : Item) (l : List Item)
        → Did s.threads t i l (step_items_within z P s c t (i ∷ l))
    unfolding drops goes_back
    did_items s c t (run x) l = did_statement (turn_within z P s c t l) x refl
    did_items s c t (back q) l = did_go_to (turn_within z P s c t l) _ q [] g_back
    did_items s c t drop l =
        let u = turn_within z P s c t l in
        if_all (DidIn u drop) (eqb (length (thread_at s t).variables) 0) _ _
        (λ _. did_stuck u _) (λ _. did_stay u _ [] _ g_drop)

    chose_items : (s : State) (c t : ℕ) (l : List Item) → (thread_at s t).continuation ≡ l
        → Chose s (step_items_within z P s c t l)
    unfolding ends
    chose_items s c t [] e =
        finishes t _ refl refl e refl refl (leave_threads (turn_within z P s c t []) _)
    chose_items s c t (i ∷ l) e = takes t i l e (did_items s c t i l)

    chose_thread : (s : State) (c t : ℕ) → Chose s (step_thread_within z P s c t)
    unfolding step_thread_within
    chose_thread s c t = chose_items s c t (thread_at s t).continuation refl

    chose_scheduler : (s : State) (c : ℕ) (ts : List ℕ) → Chose s (step_scheduler_within z P s c ts)
    unfolding end_instant
    chose_scheduler s c [] =
        if_all (Chose s) _ _ _ (λ _. nobody_acts refl refl)
        (λ _. if_all (Chose s) _ _ _ (λ _. nobody_acts refl refl)
        (λ _. nobody_acts refl (ended_threads _ s)))
    chose_scheduler s c (t ∷ ts) = chose_thread s c t

    pub chose : (s : State) (c : ℕ) → Chose s (step_within z P s c)
    unfolding step_within
    chose s c =
        if_all (Chose s) (is_scheduler_of P c) _ _
        (λ _. chose_scheduler s c (scheduler_at s c).active)
        (λ _. if_all (Chose s) (is_unlinked s c) _ _
        (λ _. chose_thread s c _) (λ _. nobody_acts refl refl))
