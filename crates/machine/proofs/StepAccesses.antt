-- The accesses of a step are those of its evaluations: nothing after them makes any. Assumes
-- nothing.
use mathlib.Core.Path.{◌≡◌, refl, sym, ap, ◌∙◌}
use mathlib.Core.List.{List, [], ◌∷◌, ◌++◌, append-nil, append_assoc}
use mathlib.Core.Bool.{Bool, true, false, not, ◌&&◌}
use Prim.Native.Nat.{ℕ}
use lib.Dec.{leb, eqb}
use lib.ListN.{length}
use Rattle.basics.proofs.Ifs.{if_all}
use Rattle.program.specs.Trees.{Expr, Stmt}
use Rattle.program.specs.Programs.{module_at}
use Rattle.machine.specs.Accesses.{Access}
use Rattle.machine.specs.Values.{Value, Number, Truth, Cell, Outcome, Is, Foreign, Spent, Stuck}
use Rattle.machine.specs.State.{Item}
use Rattle.machine.specs.State.{is_present}
use Rattle.machine.specs.Evaluation.{Here, EvalResult, Evaluation, eval, storing}
use Rattle.machine.specs.Turns.{StepResult, Turn, here, variables, unlinked_here}
use Rattle.machine.specs.Turns.{evaluator, after_eval, go_on, with_value, with_values, by_condition}
use Rattle.machine.specs.Turns.{fits, room, stay, move, go_to}
use Rattle.machine.specs.Statements.{ends, drops, goes_back, step_nothing, step_seq, step_do}
use Rattle.machine.specs.Statements.{starting, step_start, started_wait}
use Rattle.machine.specs.Statements.{step_start_wait, step_cooperate, step_let, step_store, step_if}
use Rattle.machine.specs.Statements.{step_while}
use Rattle.machine.specs.Statements.{with_signal, is_own_event, signalling, step_generate}
use Rattle.machine.specs.Statements.{step_await}

-- r has the accesses of the turn so far, and no more
abbrev Keeps : Turn → StepResult → Type 0
Keeps u r = r.accesses ≡ u.accesses

-- ---- what makes no access
module _ (u : Turn) where
  stay_keeps : (items : List Item) (vars : List Value) → (stay u items vars).accesses ≡ u.accesses
  unfolding stay
  stay_keeps items vars = if_all (Keeps u) (fits u.spaces items vars) _ _ (λ _. refl) (λ _. refl)

  move_keeps : (q : ℕ) (items : List Item) → (move u q items).accesses ≡ u.accesses
  unfolding move
  move_keeps q items =
      if_all (Keeps u) (not (fits u.spaces items (variables u))) _ _ (λ _. refl)
      (λ _. if_all (Keeps u) (eqb q 1) _ _ (λ _. refl)
      (λ _. if_all (Keeps u) (room u 1 q) _ _ (λ _. refl) (λ _. refl)))

  go_keeps : (q : ℕ) (items : List Item) → (go_to u q items).accesses ≡ u.accesses
  unfolding go_to
  go_keeps q items =
      if_all (Keeps u) (eqb q (here u)) _ _ (λ _. stay_keeps items (variables u))
      (λ _. move_keeps q items)

  pub ends_keeps : (ends u).accesses ≡ u.accesses
  unfolding ends
  ends_keeps = refl

  pub drops_keeps : (drops u).accesses ≡ u.accesses
  unfolding drops
  drops_keeps =
      if_all (Keeps u) (eqb (length (variables u)) 0) _ _ (λ _. refl) (λ _. stay_keeps _ _)

  pub back_keeps : (q : ℕ) → (goes_back u q).accesses ≡ u.accesses
  unfolding goes_back
  back_keeps q = go_keeps q _

  pub nothing_keeps : (step_nothing u).accesses ≡ u.accesses
  unfolding step_nothing
  nothing_keeps = stay_keeps _ _

  pub seq_keeps : (a b : Stmt) → (step_seq u a b).accesses ≡ u.accesses
  unfolding step_seq
  seq_keeps a b = stay_keeps _ _

  pub do_keeps : (q : ℕ) (a : Stmt) → (step_do u q a).accesses ≡ u.accesses
  unfolding step_do
  do_keeps q a =
      if_all (Keeps u) (unlinked_here u && eqb q 1) _ _ (λ _. refl) (λ _. go_keeps q _)

  pub cooperate_keeps : (step_cooperate u).accesses ≡ u.accesses
  unfolding step_cooperate
  cooperate_keeps =
      if_all (Keeps u) (unlinked_here u) _ _ (λ _. refl)
      (λ _. if_all (Keeps u) (room u 1 (here u)) _ _ (λ _. refl) (λ _. refl))

  signalling_keeps : (e : ℕ) (b : Bool) (r : Turn → StepResult)
      → (r (with_signal u e)).accesses ≡ u.accesses → (signalling u e b r).accesses ≡ u.accesses
  unfolding signalling
  signalling_keeps e b r h =
      if_all (Keeps u) (leb (length u.program.events) e) _ _ (λ _. refl)
      (λ _. if_all (Keeps u) (not b) _ _ (λ _. refl)
      (λ _. if_all (Keeps u) (is_own_event u e) _ _ (λ _. h) (λ _. refl)))

  pub generate_keeps : (e : ℕ) → (step_generate u e).accesses ≡ u.accesses
  unfolding step_generate
  generate_keeps e = signalling_keeps e _ _ refl

  pub await_keeps : (e : ℕ) → (step_await u e).accesses ≡ u.accesses
  unfolding step_await
  await_keeps e =
      signalling_keeps e _ _
      (if_all (Keeps u) (is_present u.state e) _ _ (λ _. refl) (λ _. refl))

  starting_keeps : (m : ℕ) (vs : List Value) (r : StepResult) → r.accesses ≡ u.accesses
      → (starting u m vs r).accesses ≡ u.accesses
  unfolding starting
  starting_keeps m vs r e =
      if_all (Keeps u) (unlinked_here u) _ _ (λ _. refl)
      (λ _. if_all (Keeps u) (leb (length u.program.modules) m) _ _ (λ _. refl)
      (λ _. if_all (Keeps u) (not (eqb (length vs) (length (module_at u.program m).types))) _ _
      (λ _. refl)
      (λ _. if_all (Keeps u) (not (room u 1 (here u))) _ _ (λ _. refl)
      (λ _. if_all (Keeps u) (leb 64 (length u.state.threads)) _ _ (λ _. refl) (λ _. e)))))

  waits_keeps : (m : ℕ) (vs : List Value) → (started_wait u m vs).accesses ≡ u.accesses
  unfolding started_wait
  waits_keeps m vs = if_all (Keeps u) (room u 2 (here u)) _ _ (λ _. refl) (λ _. refl)

  truth_keeps : (v : Value) (a b : StepResult) → a.accesses ≡ u.accesses
      → b.accesses ≡ u.accesses → (by_condition u v a b).accesses ≡ u.accesses
  truth_keeps (Truth true) a b f g = f
  truth_keeps (Truth false) a b f g = g
  truth_keeps (Number n) a b f g = refl
  truth_keeps (Cell c) a b f g = refl

-- ---- an evaluation, and what follows it
abbrev pub valued : Turn → Expr → EvalResult
valued u x = eval (evaluator u) x u.cells

after_value : (u : Turn) (o : Outcome) (k : Value → Turn → StepResult)
    → ((v : Value) → Keeps u (k v u)) → (go_on u o k).accesses ≡ u.accesses
after_value u (Is v) k h = h v
after_value u Foreign k h = refl
after_value u Spent k h = refl
after_value u Stuck k h = refl

module _ (u : Turn) where
  with_value_lem : (m : Here → Evaluation) (k : Value → Turn → StepResult)
      → ((v : Value) (w : Turn) → (k v w).accesses ≡ w.accesses)
      → (with_value u m k).accesses ≡ u.accesses ++ (m (evaluator u) u.cells).accesses
  with_value_lem m k h =
      let r = m (evaluator u) u.cells in
      after_value (after_eval u r) r.outcome k (λ v. h v (after_eval u r))

  pub let_accesses : (x : Expr) (a : Stmt)
      → (step_let u x a).accesses ≡ u.accesses ++ (valued u x).accesses
  unfolding step_let
  let_accesses x a = with_value_lem (λ h. eval h x) _ (λ v w. stay_keeps w _ _)

  pub store_accesses : (x y : Expr)
      → (step_store u x y).accesses ≡ u.accesses ++ (storing (evaluator u) x y u.cells).accesses
  unfolding step_store
  store_accesses x y = with_value_lem (λ h. storing h x y) _ (λ v w. stay_keeps w _ _)

  pub if_accesses : (x : Expr) (a b : Stmt)
      → (step_if u x a b).accesses ≡ u.accesses ++ (valued u x).accesses
  unfolding step_if
  if_accesses x a b =
      with_value_lem (λ h. eval h x) _
      (λ v w. truth_keeps w v _ _ (stay_keeps w _ _) (stay_keeps w _ _))

  pub while_accesses : (x : Expr) (a loop : Stmt)
      → (step_while u x a loop).accesses ≡ u.accesses ++ (valued u x).accesses
  unfolding step_while
  while_accesses x a loop =
      with_value_lem (λ h. eval h x) _
      (λ v w. truth_keeps w v _ _ (stay_keeps w _ _) (stay_keeps w _ _))

-- ---- 13 and 14: the second argument is evaluated only where the first gives a value
abbrev pub second : Outcome → List Access → List Access
second (Is v) l = l
second Foreign l = []
second Spent l = []
second Stuck l = []

abbrev pub argument_accesses : Turn → List Expr → List Access
argument_accesses u [] = []
argument_accesses u (x ∷ xs) =
    let r = valued u x in
    r.accesses ++ second r.outcome (argument_accesses (after_eval u r) xs)

abbrev Continues : (List Value → Turn → StepResult) → Type 0
Continues k = (vs : List Value) (w : Turn) → (k vs w).accesses ≡ w.accesses

-- after an evaluation with those accesses, whose outcome decides whether the rest is evaluated
then_accesses : (u w : Turn) (o : Outcome) (k : Value → Turn → StepResult) (l rest : List Access)
    → w.accesses ≡ u.accesses ++ l
    → ((v : Value) → (k v w).accesses ≡ w.accesses ++ rest)
    → (go_on w o k).accesses ≡ u.accesses ++ (l ++ second o rest)
then_accesses u w (Is v) k l rest e h =
    h v ∙ ap (λ (y : List Access). y ++ rest) e ∙ append_assoc u.accesses l rest
then_accesses u w Foreign k l rest e h =
    e ∙ ap (λ (y : List Access). u.accesses ++ y) (sym (append-nil l))
then_accesses u w Spent k l rest e h =
    e ∙ ap (λ (y : List Access). u.accesses ++ y) (sym (append-nil l))
then_accesses u w Stuck k l rest e h =
    e ∙ ap (λ (y : List Access). u.accesses ++ y) (sym (append-nil l))

values_accesses : (u : Turn) (xs : List Expr) (k : List Value → Turn → StepResult) → Continues k
    → (with_values u xs k).accesses ≡ u.accesses ++ argument_accesses u xs
unfolding with_values
values_accesses u [] k h = h [] u ∙ sym (append-nil u.accesses)
values_accesses u (x ∷ xs) k h =
    let r = valued u x in
    then_accesses u (after_eval u r) r.outcome _ r.accesses _ refl
    (λ v. values_accesses (after_eval u r) xs (λ vs. k (v ∷ vs)) (λ vs y. h (v ∷ vs) y))

module _ (u : Turn) (m : ℕ) (xs : List Expr) where
  pub start_accesses : (step_start u m xs).accesses ≡ u.accesses ++ argument_accesses u xs
  unfolding step_start
  start_accesses = values_accesses u xs _ (λ vs w. starting_keeps w m vs _ refl)

  pub wait_accesses : (step_start_wait u m xs).accesses ≡ u.accesses ++ argument_accesses u xs
  unfolding step_start_wait
  wait_accesses = values_accesses u xs _ (λ vs w. starting_keeps w m vs _ (waits_keeps w m vs))
