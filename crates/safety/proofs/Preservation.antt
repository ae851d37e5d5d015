-- Each choice on a good state is neither foreign nor stuck, and leaves a good state: one case for
-- each statement. Assumes nothing.
use mathlib.Core.Path.{◌≡◌, refl, sym, ap, ap₂, subst, ◌∙◌}
use mathlib.Core.Logic.{inl, inr, ◌≢◌}
use mathlib.Core.List.{List, [], ◌∷◌, ◌++◌}
use mathlib.Core.Bool.{Bool, true, false, not, ◌&&◌, ◌||◌}
use Prim.Native.Nat.{ℕ, suc, ◌-◌, ◌≤◌, ◌<◌}
use native.Mathlib.Omega.{arith}
use lib.Dec.{leb, eqb}
use lib.ListN.{length, take, length-append}
use lib.Seq.{length-take-le}
use borrow.Author.Tests.{le-leb, lt-leb, leb-false, eqb-true, eq-eqb, ne_eqb}
use Rattle.basics.specs.Members.{All}
use Rattle.basics.proofs.Ifs.{if_all, or_on}
use Rattle.language.specs.Groups.{InStep}
use Rattle.language.proofs.Labels.{in_step_computes}
use Rattle.program.specs.Trees.{Expr, Stmt}
use Rattle.program.specs.Programs.{Program, owner_of_event, module_at}
use Rattle.machine.specs.State.{State, Item, run, back, drop, Thread, thread_at, scheduler_at}
use Rattle.machine.specs.State.{is_present}
use Rattle.machine.specs.Evaluation.{Here, EvalResult, Evaluation, eval, storing}
use Rattle.machine.specs.Turns.{StepResult, Turn, here, continuation, variables, refuse, accept}
use Rattle.machine.specs.Turns.{after_eval, evaluator, go_on, with_value, with_values, by_condition, self_at}
use Rattle.machine.specs.Turns.{settled, is_scheduler_of, leave, room, fits, unlinked_here, stay, move}
use Rattle.machine.specs.Turns.{go_to}
use Rattle.machine.specs.Steps.{is_unlinked, step_thread_within, nobody, end_instant, step}
use Rattle.machine.specs.Steps.{step_within}
use Rattle.machine.specs.Inner.Parts.{step_items, step_thread, turn, step_scheduler}
use Rattle.machine.specs.Statements.{ends, drops, goes_back, step_nothing, step_seq, step_do, started}
use Rattle.machine.specs.Statements.{new_thread, starting, step_start, started_wait, step_start_wait}
use Rattle.machine.specs.Statements.{step_cooperate, step_let, step_store, step_if, step_while}
use Rattle.machine.specs.Statements.{with_signal, is_own_event, signalling, step_generate}
use Rattle.machine.specs.Statements.{step_await, step_statement}
use Rattle.machine.specs.declared.value.Value.{Value}
use Rattle.machine.specs.declared.value.Outcome.{Outcome}
use Rattle.machine.specs.declared.value.Outcome.TheVariants.{Is, Spent}
use Rattle.machine.proofs.Tests.{not_both, taken, passed}
use Rattle.machine.proofs.Space.{Counted, acting_with, free_same, unlinked_free, Acting, room_one}
use Rattle.machine.proofs.Space.{room_two, room_awake, signal_acting, leave_threads, nth_length}
use Rattle.machine.proofs.Continuations.{Roomy, no_items, run_item, fits-true, roomy_seq, roomy_do}
use Rattle.machine.proofs.Continuations.{roomy_let, roomy_while, roomy_then, roomy_else, below_run}
use Rattle.machine.proofs.Continuations.{below_back, below_drop, drop_finds}
use Rattle.machine.proofs.Depth.{BodiesFit}
use Rattle.safety.specs.Safety.{Sound}
use Rattle.safety.proofs.Typing.{Ty, tru, Pub, CellTyping, Store, TypedE, Args, OwnEvent}
use Rattle.safety.proofs.Typing.{TypedS, s_nothing, s_seq, s_do, s_start, s_start_wait}
use Rattle.safety.proofs.Typing.{s_cooperate, s_let, s_store, s_if, s_while, s_generate}
use Rattle.safety.proofs.Typing.{s_await}
use Rattle.safety.proofs.Heap.{Val, is_tru, GoodCells, More, Vals, none, more, val_more}
use Rattle.safety.proofs.Heap.{vals_more, shared_more, vals_public, vals_length, vals_snoc}
use Rattle.safety.proofs.Heap.{vals_take}
use Rattle.safety.proofs.Evaluates.{FineO, well, spent, Fine, fine_eval, fine_storing}
use Rattle.safety.proofs.Threads.{each_nth, each_map}
use Rattle.safety.proofs.Invariant.{TypedItems, p_empty, p_run, p_back, p_drop, GoodThread}
use Rattle.safety.proofs.Invariant.{GoodIn, Good, no_thread_lem, thread_more, settled_good}
use Rattle.safety.proofs.Invariant.{left_good, enlisted_good, woken_good, ended_good}
use Rattle.safety.proofs.Invariant.{started_good}

module _ (P : Program) (sh : List CellTyping) where
  -- what a choice gives on a good state
  pub record Okay (r : StepResult) : Type 0 where
    pub good : Good P sh r.state
    pub sound : Sound r.answer

  -- a turn in which the evaluations so far went well: the state it was given is good (a refusal
  -- goes back to it), and so are its threads with the cells made so far, under a larger store
  -- typing. Γ types the acting thread's variables
  pub record Ready (Γ : List Ty) (u : Turn) : Type 0 where
    pub before : Good P sh u.state
    pub acting : Acting u
    pub typing : Store
    pub now : GoodIn P sh typing u.state.threads u.cells
    pub vars : Vals typing u.thread (variables u) Γ
    pub program : u.program ≡ P

  -- ---- the ways in which a turn goes on and ends

  ok_refuse : {Γ : List Ty} (u : Turn) (n : ℕ) → Ready Γ u → n ≢ 19 → n ≢ 20 → Okay (refuse u n)
  ok_refuse u n r a b = record { good = r.before; sound = (a, b) }

  ok_accept : (u : Turn) (s : State) → Good P sh s → Okay (accept u s)
  ok_accept u s g = record { good = g; sound = (λ e. omega (arith, e), λ e. omega (arith, e)) }

  ok_stay : {Γ : List Ty} (u : Turn) (items : List Item) (vs : List Value) (Δ : List Ty) (r : Ready Γ u)
      → Vals r.typing u.thread vs Δ → TypedItems P sh Δ (here u) items
      → Roomy (length vs) items → Okay (stay u items vs)
  unfolding stay
  ok_stay u items vs Δ r v p o =
      taken Okay (fits u.spaces items vs) _ _
      (fits-true u.spaces r.acting.spaces items vs o)
      (ok_accept u _ (r.typing, settled_good P sh u (self_at u (here u) items vs) r.now (record { types = Δ; vars = v; typed = p; roomy = o })))

  ok_move : {Γ : List Ty} (u : Turn) (q : ℕ) (items : List Item) (r : Ready Γ u)
      → TypedItems P sh Γ q items → Roomy (length (variables u)) items → Okay (move u q items)
  unfolding move
  ok_move {Γ} u q items r p o =
      let g = left_good P sh u (self_at u q items (variables u)) r.now (record { types = Γ; vars = r.vars; typed = p; roomy = o }) in
      passed Okay (not (fits u.spaces items (variables u))) _ _
      (ap not (fits-true u.spaces r.acting.spaces items (variables u) o))
      (if_all Okay (eqb q 1) _ _ (λ _. ok_accept u _ (r.typing, g))
      (λ _. taken Okay (room u 1 q) _ _ (room_one u r.acting q) (ok_accept u _ (enlisted_good P sh q _ _ (r.typing, g)))))

  ok_go_to : {Γ : List Ty} (u : Turn) (q : ℕ) (items : List Item) (r : Ready Γ u)
      → TypedItems P sh Γ q items → Roomy (length (variables u)) items → Okay (go_to u q items)
  unfolding go_to
  ok_go_to {Γ} u q items r p o =
      if_all Okay (eqb q (here u)) _ _
      (λ e. ok_stay u items (variables u) Γ r r.vars (subst (λ (n : ℕ). TypedItems P sh Γ n items) (eqb-true q (here u) e) p) o)
      (λ _. ok_move u q items r p o)

  -- ---- evaluations in a turn: any refusal of them is 17

  after_ready : {Γ : List Ty} (u : Turn) (e : EvalResult) (r : Ready Γ u) (Σ : Store)
      → More r.typing Σ → GoodCells Σ e.cells → Ready Γ (after_eval u e)
  after_ready u e r Σ m g =
      record {
        before = r.before;
        acting = record { counted = r.acting.counted; stands = r.acting.stands; same = r.acting.same; spaces = r.acting.spaces };
        typing = Σ;
        now = record { cells = g; shared = shared_more m r.now.shared; threads = each_map 1 (thread_more P sh m) r.now.threads };
        vars = vals_more m r.vars;
        program = r.program;
      }

  ok_go_on : {Γ : List Ty} {τ : Ty} (u : Turn) (e : EvalResult) (o : Outcome) (k : Value → Turn → StepResult) (r : Ready Γ u)
      → FineO r.typing u.thread τ e.cells o
      → ((v : Value) (q : Ready Γ (after_eval u e)) → More r.typing q.typing → Val q.typing u.thread v τ → Okay (k v (after_eval u e)))
      → Okay (go_on (after_eval u e) o k)
  unfolding after_ready
  ok_go_on u e (Is v) k r (well Σ m g w) h = h v (after_ready u e r Σ m g) m w
  ok_go_on u e Spent k r spent h =
      record { good = r.before; sound = (λ x. omega (arith, x), λ x. omega (arith, x)) }
  ok_go_on {Γ = Γ} {τ = τ} u e Rattle.machine.specs.declared.value.Outcome.TheVariants.Foreign k r x'' h = elim x'' [ ]
  ok_go_on {Γ = Γ} {τ = τ} u e Rattle.machine.specs.declared.value.Outcome.TheVariants.Stuck k r x3 h = elim x3 [ ]

  ok_value : {Γ : List Ty} {τ : Ty} (u : Turn) (m : Here → Evaluation) (k : Value → Turn → StepResult) (r : Ready Γ u)
      → Fine r.typing u.thread τ (m (evaluator u) u.cells)
      → ((e : EvalResult) (v : Value) (q : Ready Γ (after_eval u e)) → More r.typing q.typing → Val q.typing u.thread v τ → Okay (k v (after_eval u e)))
      → Okay (with_value u m k)
  ok_value u m k r f h =
      let e : EvalResult = m (evaluator u) u.cells in ok_go_on u e e.outcome k r f (h e)

  ok_by : {Σ : Store} {t : ℕ} {v : Value} (u : Turn) (a b : StepResult) → Val Σ t v tru → Okay a
      → Okay b → Okay (by_condition u v a b)
  ok_by u a b (is_tru {b = true}) f g = f
  ok_by u a b (is_tru {b = false}) f g = g

  args_public : {p : ℕ} {Γ Δ : List Ty} {xs : List Expr} → Args sh Γ p xs Δ → All Pub Δ
  args_public Args.none = All.none
  args_public (Args.more d p ds) = All.more p (args_public ds)

  -- ---- in a program whose shared cells are those that sh types, and whose bodies have room
  module _ (count : length sh ≡ length P.shared) (bodies : BodiesFit P) where
    shared_here : {Γ : List Ty} (u : Turn) → Ready Γ u → length sh ≡ length u.program.shared
    shared_here u r = count ∙ ap (λ (p : Program). length p.shared) (sym r.program)

    fine_in : {Γ : List Ty} {x : Expr} {τ : Ty} (u : Turn) (r : Ready Γ u)
        → TypedE sh Γ (here u) x τ
        → Fine r.typing u.thread τ (eval (evaluator u) x u.cells)
    fine_in u r d = fine_eval (evaluator u) u.cells (shared_here u r) r.now.shared r.vars r.now.cells d

    -- arguments: any number of evaluations, after which the thread itself is as it was
    ok_values : {Γ Δ : List Ty} (u w : Turn) (xs : List Expr) (k : List Value → Turn → StepResult) (r : Ready Γ w)
        → w.self ≡ u.self → w.thread ≡ u.thread → Args sh Γ (here u) xs Δ
        → ((vs : List Value) (y : Turn) (q : Ready Γ y) → y.self ≡ u.self → y.thread ≡ u.thread → More r.typing q.typing → Vals q.typing y.thread vs Δ → Okay (k vs y))
        → Okay (with_values w xs k)
    unfolding with_values
    ok_values u w [] k r e f Args.none h = h [] w r e f (λ _ _ a. a) none
    ok_values {Γ} u w (x ∷ xs) k r e f (Args.more {τ = τ} d _ ds) h =
        ok_value w (λ a. eval a x) _ r
        (fine_in w r (subst (λ (t : Thread). TypedE sh Γ t.place x τ) (sym e) d))
        (λ ev v q m z. ok_values u (after_eval w ev) xs _ q e f ds
        (λ vs y q' e' f' m' zs. h (v ∷ vs) y q' e' f' (λ c l a. m' c l (m c l a))
        (more (val_more m' (subst (λ (j : ℕ). Val q.typing j v τ) (f ∙ sym f') z)) zs)))

    -- nothing stands in the way of a start but that there are 64 threads: 18
    ok_starting : {Γ : List Ty} (u : Turn) (m : ℕ) (vs : List Value) (s : StepResult) (r : Ready Γ u)
        → 2 ≤ here u → m < length P.modules
        → length vs ≡ length (module_at P m).types → (length u.state.threads < 64 → Okay s)
        → Okay (starting u m vs s)
    unfolding starting
    ok_starting u m vs s r l b c h =
        passed Okay (unlinked_here u) _ _ (ne_eqb (here u) 1 (λ e. omega (arith, e)))
        (passed Okay (leb (length u.program.modules) m) _ _
        (lt-leb (length u.program.modules) m (subst (λ (p : Program). m < length p.modules) (sym r.program) b))
        (passed Okay (not (eqb (length vs) (length (module_at u.program m).types))) _ _
        (ap not (eq-eqb (length vs) (length (module_at u.program m).types) (c ∙ ap (λ (p : Program). length (module_at p m).types) (sym r.program))))
        (passed Okay (not (room u 1 (here u))) _ _ (ap not (room_one u r.acting (here u)))
        (if_all Okay (leb 64 (length u.state.threads)) _ _
        (λ _. ok_refuse u 18 r (λ e. omega (arith, e)) (λ e. omega (arith, e)))
        (λ e. h (leb-false 64 (length u.state.threads) e))))))

    -- the started thread: its variables are the arguments, which are public, so they have their
    -- types in its eyes too
    new_good_thread : {Γ Δ : List Ty} (u : Turn) (m : ℕ) (vs : List Value) (r : Ready Γ u)
        → m < length P.modules → length vs ≡ length (module_at P m).types
        → Vals r.typing u.thread vs Δ → All Pub Δ
        → TypedS P sh Δ (here u) (module_at P m).body
        → GoodThread P sh r.typing (new_thread u) (started u (module_at u.program m) vs)
    new_good_thread {Δ = Δ} u m vs r b c v k d =
        subst (λ (p : Program). GoodThread P sh r.typing (new_thread u) (started u (module_at p m) vs)) (sym r.program)
        (record {
          types = Δ;
          vars = vals_public (new_thread u) k v;
          typed = p_run d (p_empty k);
          roomy =
              let g = bodies m b in
              run_item {n = length vs} {x = (module_at P m).body} {l = []} (omega (arith, g.0)) (omega (arith, g.1, c)) (no_items {n = length vs} (omega (arith, g.1, c)));
        })

    one_more : (vs : List Value) (v : Value) → suc (length vs) ≡ length (vs ++ (v ∷ []))
    one_more vs v = let a = length-append vs (v ∷ []) in omega arith

    -- the acting thread as it is, its top item taken
    self_good : {Γ : List Ty} (u y : Turn) (q : Ready Γ y) → y.self ≡ u.self
        → TypedItems P sh Γ (here u) (continuation u)
        → Roomy (length (variables u)) (continuation u)
        → GoodThread P sh q.typing y.thread y.self
    self_good {Γ} u y q e p o =
        record {
          types = Γ;
          vars = q.vars;
          typed = subst (λ (t : Thread). TypedItems P sh Γ t.place t.continuation) (sym e) p;
          roomy = subst (λ (t : Thread). Roomy (length t.variables) t.continuation) (sym e) o;
        }

    -- nothing stands in the way of an access to an event of the scheduler on which the thread
    -- stands, or of one in step with that, where the lists have room
    ok_signalling : {Γ : List Ty} (u : Turn) (e : ℕ) (b : Bool) (k : Turn → StepResult) (r : Ready Γ u)
        → OwnEvent P (here u) e → b ≡ true
        → (Ready Γ (with_signal u e) → Okay (k (with_signal u e))) → Okay (signalling u e b k)
    unfolding signalling is_own_event
    ok_signalling u e b k r o h f =
        passed Okay (leb (length u.program.events) e) _ _
        (lt-leb (length u.program.events) e (subst (λ (p : Program). e < length p.events) (sym r.program) o.there))
        (passed Okay (not b) _ _ (ap not h)
        (taken Okay (is_own_event u e) _ _ own
        (f (record { before = r.before; acting = signal_acting u e r.acting; typing = r.typing; now = r.now; vars = r.vars; program = r.program }))))
      where
        own : is_own_event u e ≡ true
        own =
            let stands : Program → Type 0 = λ p. InStep p.links (owner_of_event p e) (here u) in
            ap₂ ◌&&◌ (le-leb 2 (here u) o.scheduler)
            ((in_step_computes u.program.links (owner_of_event u.program e) (here u)).1
            (subst stands (sym r.program) o.owner))

    -- the same thread after an access to an event, which changes neither threads nor cells
    past_signal : {Γ : List Ty} (u : Turn) (e : ℕ) (q : Ready Γ (with_signal u e))
        → TypedItems P sh Γ (here u) (continuation u)
        → Roomy (length (variables u)) (continuation u)
        → Good P sh (settled (with_signal u e) u.self)
    past_signal u e q p o =
        (q.typing, settled_good P sh (with_signal u e) u.self q.now (self_good u (with_signal u e) q refl p o))

    -- ---- each statement

    ok_statement : {Γ : List Ty} (u : Turn) (x : Stmt) (r : Ready Γ u) → TypedS P sh Γ (here u) x
        → TypedItems P sh Γ (here u) (continuation u)
        → Roomy (length (variables u)) (run x ∷ continuation u) → Okay (step_statement u x)
    unfolding step_nothing step_seq step_do step_start started_wait step_start_wait step_cooperate step_let step_store step_if step_while step_generate step_await
    ok_statement {Γ} u x r s_nothing p o =
        ok_stay u (continuation u) (variables u) Γ r r.vars p (below_run o)
    ok_statement {Γ} u x r (s_seq a b) p o =
        ok_stay u _ (variables u) Γ r r.vars (p_run a (p_run b p)) (roomy_seq o)
    -- 12: its rule types A at q, and the rest waits below a 'back' to this place
    ok_statement {Γ} u x r (s_do {q = q} {a = a} f d) p o =
        passed Okay (unlinked_here u && eqb q 1) _ _
        (not_both (unlinked_here u) (eqb q 1) (λ g h. f (eqb-true (here u) 1 g) (eqb-true q 1 h)))
        (ok_go_to u q _ r (p_run d (p_back p)) (roomy_do (here u) o))
    -- 13: the module is there, with as many parameters, and its body is typed at this place, since
    -- its effect is part of the starter's
    ok_statement {Γ} u x r (s_start {Δ = Δ} {m = m} {xs = xs} l b ga c d) p o =
        ok_values u u xs _ r refl refl ga
        (λ vs y q e f mo zs. ok_starting y m vs _ q (subst (λ (t : Thread). 2 ≤ t.place) (sym e) l) b (vals_length zs ∙ c)
        (λ _. ok_accept y _ (enlisted_good P sh _ _ _ (
          q.typing,
          started_good P sh q.typing (new_thread y) _ (settled y y.self) (ap suc (sym (nth_length y.state.threads y.thread y.self)))
              (settled_good P sh y y.self q.now (self_good u y q e p (below_run o)))
              (new_good_thread y m vs q b (vals_length zs ∙ c) zs (args_public ga) (subst (λ (t : Thread). TypedS P sh Δ t.place (module_at P m).body) (sym e) d)),
        ))))
    -- 14: the same; the starter leaves its list, and both entries have room
    ok_statement {Γ} u x r (s_start_wait {Δ = Δ} {m = m} {xs = xs} l b ga c d) p o =
        ok_values u u xs _ r refl refl ga
        (λ vs y q e f mo zs. ok_starting y m vs _ q (subst (λ (t : Thread). 2 ≤ t.place) (sym e) l) b (vals_length zs ∙ c)
        (λ g. taken Okay (room y 2 (here y)) _ _ (room_two y q.acting (here y) g)
        (ok_accept y _ (enlisted_good P sh _ _ _ (enlisted_good P sh _ _ _ (
          q.typing,
          started_good P sh q.typing (new_thread y) _ (leave y (settled y y.self))
              (ap suc (sym (ap (length {A = Thread}) (leave_threads y (settled y y.self)) ∙ nth_length y.state.threads y.thread y.self)))
              (left_good P sh y y.self q.now (self_good u y q e p (below_run o)))
              (new_good_thread y m vs q b (vals_length zs ∙ c) zs (args_public ga) (subst (λ (t : Thread). TypedS P sh Δ t.place (module_at P m).body) (sym e) d)),
        ))))))
    ok_statement {Γ} u x r (s_cooperate l) p o =
        passed Okay (unlinked_here u) _ _ (ne_eqb (here u) 1 (λ e. omega (arith, e)))
        (taken Okay (room u 1 (here u)) _ _ (room_one u r.acting (here u))
        (ok_accept u _ (enlisted_good P sh _ _ _ (r.typing, left_good P sh u u.self r.now (self_good u u r refl p (below_run o))))))
    -- 16: the body over one variable more, above a drop
    ok_statement {Γ} u x r (s_let {x = y} {τ = τ} {a = a} d b) p o =
        ok_value u (λ h. eval h y) _ r (fine_in u r d)
        (λ e v q m z. ok_stay (after_eval u e) _ (variables u ++ (v ∷ [])) (Γ ++ (τ ∷ [])) q (vals_snoc q.vars z) (p_run b (p_drop τ refl p))
        (subst (λ (j : ℕ). Roomy j (run a ∷ drop ∷ continuation u)) (one_more (variables u) v) (roomy_let o)))
    -- 17: the cell keeps the type of its content
    ok_statement {Γ} u x r (s_store {o = w} {x = y} {y = z} h d e) p o =
        ok_value u (λ i. storing i y z) _ r
        (fine_storing (evaluator u) u.cells (shared_here u r) r.now.shared r.vars r.now.cells h d e)
        (λ ev v q m k. ok_stay (after_eval u ev) (continuation u) (variables u) Γ q q.vars p (below_run o))
    ok_statement {Γ} u x r (s_if {x = y} d a b) p o =
        ok_value u (λ h. eval h y) _ r (fine_in u r d)
        (λ e v q m z. ok_by (after_eval u e) _ _ z
        (ok_stay (after_eval u e) _ (variables u) Γ q q.vars (p_run a p) (roomy_then o))
        (ok_stay (after_eval u e) _ (variables u) Γ q q.vars (p_run b p) (roomy_else o)))
    -- 19: the body above the same loop
    ok_statement {Γ} u x r (s_while {i = i} {x = y} {a = a} d b) p o =
        ok_value u (λ h. eval h y) _ r (fine_in u r d)
        (λ e v q m z. ok_by (after_eval u e) _ _ z
        (ok_stay (after_eval u e) _ (variables u) Γ q q.vars (p_run b (p_run (s_while d b) p)) (roomy_while o))
        (ok_stay (after_eval u e) _ (variables u) Γ q q.vars p (below_run o)))
    -- 1A: only lists and the event change
    ok_statement {Γ} u x r (s_generate {e = e} y) p o =
        ok_signalling u e _ _ r y (room_awake u r.acting e)
        (λ q.
        let g = past_signal u e q p (below_run o) in
        ok_accept (with_signal u e) _ (woken_good P sh _ e _ g))
    -- 1B: the same where the event is present; else the thread stays as it was
    ok_statement {Γ} u x r (s_await {e = e} y) p o =
        ok_signalling u e _ _ r y (rw (room_one u r.acting (here u)) (or_on (is_present u.state e || unlinked_here u)))
        (λ q. if_all Okay (is_present u.state e) _ _
        (λ _. ok_accept (with_signal u e) _ (past_signal u e q p (below_run o)))
        (λ _. ok_accept (with_signal u e) _ (enlisted_good P sh _ _ _ (q.typing, left_good P sh (with_signal u e) (thread_at u.state u.thread) q.now (each_nth u.thread q.now.threads (no_thread_lem P sh q.typing u.thread))))))

    -- ---- each item: the acting thread, whose variables are of types Γ, takes the top of that
    -- continuation

    turn_ready : (s : State) (c t : ℕ) (Σ : Store) (Γ : List Ty) (items : List Item)
        → GoodIn P sh Σ s.threads s.cells → Acting (turn P s c t [])
        → Vals Σ t (thread_at s t).variables Γ → Ready Γ (turn P s c t items)
    turn_ready s c t Σ Γ items g a v = record { before = (Σ, g); acting = acting_with P s c t items a; typing = Σ; now = g; vars = v; program = refl }

    ok_items : (s : State) (c t : ℕ) (Σ : Store) (Γ : List Ty) (items : List Item)
        → GoodIn P sh Σ s.threads s.cells → Acting (turn P s c t [])
        → Vals Σ t (thread_at s t).variables Γ → TypedItems P sh Γ (thread_at s t).place items
        → Roomy (length (thread_at s t).variables) items → Okay (step_items P s c t items)
    unfolding ends drops goes_back turn_ready
    ok_items s c t Σ Γ [] g a v (p_empty k) o =
        ok_accept (turn P s c t []) _ (Σ, left_good P sh (turn P s c t []) _ g (record { types = Γ; vars = v; typed = p_empty k; roomy = o }))
    ok_items s c t Σ Γ (run x ∷ items) g a v (p_run d p) o =
        ok_statement (turn P s c t items) x (turn_ready s c t Σ Γ items g a v) d p o
    ok_items s c t Σ Γ (back q ∷ items) g a v (p_back p) o =
        ok_go_to (turn P s c t items) q items (turn_ready s c t Σ Γ items g a v) p (below_back o)
    ok_items s c t Σ Γ (drop ∷ items) g a v (p_drop {Γ = Δ} τ e p) o =
        let vs = (thread_at s t).variables in
        let k = drop_finds o in
        passed Okay (eqb (length vs) 0) _ _ (ne_eqb (length vs) 0 (λ z. omega (arith, z)))
        (ok_stay (turn P s c t items) items (take (length vs - 1) vs) Δ
        (turn_ready s c t Σ Γ items g a v)
        (vals_take τ Δ (length vs - 1) (omega arith) (subst (Vals Σ t vs) e v)) p
        (subst (λ (j : ℕ). Roomy j items) (sym (length-take-le (length vs - 1) vs (omega arith)))
        (below_drop (subst (λ (j : ℕ). Roomy j (drop ∷ items)) (one_less (length vs) k) o))))
      where
        one_less : (j : ℕ) → 1 ≤ j → j ≡ suc (j - 1)
        one_less j h = omega arith

    -- ---- each choice

    ok_thread : (s : State) (c t : ℕ) → Good P sh s → Acting (turn P s c t [])
        → Okay (step_thread P s c t)
    unfolding step_thread_within
    ok_thread s c t g a =
        let x = each_nth t g.1.threads (no_thread_lem P sh g.0 t) in
        ok_items s c t g.0 x.types (thread_at s t).continuation g.1 a x.vars x.typed
        x.roomy

    ok_nobody : (k : ℕ) (s : State) → Good P sh s → Sound k → Okay (nobody k s)
    ok_nobody k s g h = record { good = g; sound = h }

    -- the end of an instant: only lists and events change
    ok_instant : (s : State) (c : ℕ) → Good P sh s → Okay (end_instant P s c)
    unfolding end_instant
    ok_instant s c g =
        if_all Okay _ _ _ (λ _. nothing) (λ _. if_all Okay _ _ _ (λ _. nothing)
        (λ _. ok_nobody 0 _ (ended_good P sh _ s g) (λ e. omega (arith, e), λ e. omega (arith, e))))
      where
        nothing : Okay (nobody 16 s)
        nothing = ok_nobody 16 s g (λ e. omega (arith, e), λ e. omega (arith, e))

    ok_scheduler : (s : State) (c : ℕ) (ts : List ℕ) → Good P sh s → Counted s
        → is_scheduler_of P c ≡ true → ts ≡ (scheduler_at s c).active → Okay (step_scheduler P s c ts)
    ok_scheduler s c [] g h i e = ok_instant s c g
    ok_scheduler s c (t ∷ ts) g h i e =
        let k = ap (length {A = ℕ}) e in
        ok_thread s c t g (record { counted = h; stands = inl (i, omega arith); same = free_same P s c t; spaces = refl })

    -- preservation: of any good state in which no list is full, and any choice
    pub ok_step : (s : State) (c : ℕ) → Good P sh s → Counted s → Okay (step P s c)
    unfolding step_within
    ok_step s c g h =
        if_all Okay (is_scheduler_of P c) _ _
        (λ i. ok_scheduler s c (scheduler_at s c).active g h i refl)
        (λ i. if_all Okay (is_unlinked s c) _ _
        (λ l. ok_thread s c (c - 16) g (record { counted = h; stands = inr (i, unlinked_free s c l); same = free_same P s c (c - 16); spaces = refl }))
        (λ _. ok_nobody 15 s g (λ e. omega (arith, e), λ e. omega (arith, e))))
