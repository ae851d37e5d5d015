-- A turn leaves at most 256 cells in use: what a commit asks of it. Assumes nothing.
use Prim.Native.Nat.{ℕ, ◌≤◌}
use mathlib.Core.Path.{sym, subst}
use mathlib.Core.List.{List, [], ◌∷◌}
use mathlib.Core.Bool.{Bool, true, false, ◌&&◌}
use lib.Dec.{leb, eqb}
use Rattle.basics.specs.Members.{All, more}
use Rattle.basics.proofs.Ifs.{if_all}
use Rattle.language.specs.declared.frame.Frame.{Frame}
use Rattle.program.specs.Trees.{Expr, Stmt, root_s}
use Rattle.program.specs.Programs.{Program}
use Rattle.machine.specs.State.{State, Stored, Thread, used_cells}
use Rattle.machine.specs.Evaluation.{EvalResult, eval, storing}
use Rattle.machine.specs.Turns.{evaluator}
use Rattle.machine.specs.Words.{value_word}
use Rattle.machine.specs.Inner.Blocks.{cell_words}
use Rattle.machine.specs.declared.value.Value.{Value}
use Rattle.machine.specs.declared.value.Value.TheVariants.{Number, Truth, Cell}
use Rattle.machine.specs.declared.value.Outcome.{Outcome}
use Rattle.machine.specs.declared.value.Outcome.TheVariants.{Is, Foreign, Spent, Stuck}
use Rattle.machine.specs.Shapes.{ThreadFits}
use Rattle.machine.proofs.KeptCells.{CellsFit, ExprFits, EvalFits, fit_storing}
use Rattle.machine.proofs.KeptShape.{Parts, of_nothing, of_cooperate, of_seq, of_do, of_start}
use Rattle.machine.proofs.KeptShape.{of_wait, of_let, of_store, of_if, of_while}
use Rattle.machine.proofs.KeptShape.{of_generate, of_await}
use Rattle.operations.specs.declared.Who.{Who}
use Rattle.operations.specs.Inner.Results.{Result}
use Rattle.evaluator.specs.Inner.Results.{result_of}
use Rattle.states.specs.declared.thread.ThreadWords.{ThreadWords}
use Rattle.states.specs.Inner.Threads.{thread_words_of}
use Rattle.acts.specs.Inner.Transitions.{TurnResult}
use Rattle.turns.specs.Inner.Acts.{TurnOutcome, one_in, two_in, lets_in, drops_in, goes_in, does_in}
use Rattle.turns.specs.Inner.Acts.{cooperates_in, then_acts, then_on, by_truth_in, lets_on}
use Rattle.turns.specs.Inner.Acts.{stores_on}
use Rattle.turns.specs.Inner.Acts.{chooses_on, loops_on, evaluated_in, request, start_turn}
use Rattle.turns.specs.Inner.Acts.{one_argument}
use Rattle.turns.specs.Inner.Acts.{last_argument, two_arguments, statement_in}
use Rattle.stepper.proofs.Transitions.{Acts, turn_at}
use Rattle.stepper.proofs.Items.{IsWho, here_fits, evaluation_is, eval_fits}

-- ---- each way to come to something, with n cells in use
abbrev Few : TurnResult → Type 0
Few a = a.used ≤ 256

module _ (n : ℕ) (h : n ≤ 256) (th : ThreadWords) where
  one_few : (a : ℕ) → (one_in th n a).used ≤ 256
  unfolding one_in
  one_few a = if_all Few (leb 25 th.items) _ _ (λ _. h) (λ _. h)

  two_few : (a b : ℕ) → (two_in th n a b).used ≤ 256
  unfolding two_in
  two_few a b = if_all Few (leb 24 th.items) _ _ (λ _. h) (λ _. h)

  pub drops_few : (drops_in th n).used ≤ 256
  unfolding drops_in
  drops_few = if_all Few (eqb th.values 0) _ _ (λ _. h) (λ _. h)

  pub goes_few : (from q : ℕ) → (goes_in from th n q).used ≤ 256
  unfolding goes_in
  goes_few from q =
      if_all Few (eqb q from) _ _ (λ _. h) (λ _. if_all Few (eqb q 1) _ _ (λ _. h) (λ _. h))

  cooperates_few : (cooperates_in th n).used ≤ 256
  unfolding cooperates_in
  cooperates_few = if_all Few (eqb th.place 1) _ _ (λ _. h) (λ _. h)

  then_few : (o : Outcome) (K : Value → TurnResult) → ((v : Value) → (K v).used ≤ 256)
      → (then_acts o th n K).used ≤ 256
  then_few (Is v) K f = f v
  then_few Foreign K f = h
  then_few Spent K f = h
  then_few Stuck K f = h

  truth_few : (v : Value) (a b : TurnResult) → a.used ≤ 256 → b.used ≤ 256
      → (by_truth_in v th n a b).used ≤ 256
  truth_few (Truth true) a b f g = f
  truth_few (Truth false) a b f g = g
  truth_few (Number m) a b f g = h
  truth_few (Cell c) a b f g = h

lets_few : (n : ℕ) → n ≤ 256 → (th : ThreadWords) (v body : ℕ) → (lets_in th n v body).used ≤ 256
unfolding lets_in
lets_few n h th v body = if_all Few (leb 25 th.values) _ _ (λ _. h) (λ _. if_all Few (leb 24 th.items) _ _ (λ _. h) (λ _. h))

does_few : (n : ℕ) → n ≤ 256 → (th : ThreadWords) (q body : ℕ) → (does_in th n q body).used ≤ 256
unfolding does_in
does_few n h th q body =
    if_all Few (eqb th.place 1 && eqb q 1) _ _ (λ _. h)
    (λ _. if_all Few (leb 24 th.items) _ _ (λ _. h) (λ _. goes_few n h _ th.place q))

module _ {fs : List Frame} {P : Program} {n : ℕ} {w : List ℕ} {s : State} {c k : ℕ} (A : Acts fs P n w s c k) (x : Thread) (X : ThreadFits fs n x) (who : Who) (W : IsWho P k x who) where
  abbrev th : ThreadWords
  th = thread_words_of x

  -- the value of an expression
  module _ (cs : List Stored) (C : CellsFit n cs) (e : Expr) (E : ExprFits n e) where
    value_few : (On : Result → TurnOutcome)
        → ((r : EvalResult) → used_cells r.cells ≤ 256 → (On (result_of r)).acted.used ≤ 256)
        → (On (evaluated_in who (thread_words_of x) e (used_cells cs) (cell_words cs))).acted.used ≤ 256
    value_few On f =
        subst (λ (r : Result). (On r).acted.used ≤ 256)
        (sym (evaluation_is A x X who W cs [] C (λ h. eval h e)))
        (f (eval (evaluator (turn_at A x cs [])) e cs) (eval_fits A x X who W cs [] C e E).cells.room)

  on_few : (o : Outcome) (m : ℕ) (ws : List ℕ) (K : Value → TurnOutcome) → m ≤ 256
      → ((v : Value) → (K v).acted.used ≤ 256)
      → (then_on o (thread_words_of x) m ws K).acted.used ≤ 256
  on_few (Is v) m ws K h f = f v
  on_few Foreign m ws K h f = h
  on_few Spent m ws K h f = h
  on_few Stuck m ws K h f = h

  starts_few : (waits : Bool) (m : ℕ) (cs : List Stored) → CellsFit n cs → (xs : List Expr)
      → All (ExprFits n) xs
      → (start_turn who (request waits m) (thread_words_of x) (used_cells cs)
      (cell_words cs) xs).acted.used ≤ 256
  starts_few waits m cs C [] f = C.room
  starts_few waits m cs C (e ∷ []) (more E f) =
      value_few cs C e E (one_argument (request waits m) th)
      (λ r h. then_few (used_cells r.cells) h th r.outcome _ (λ _. h))
  starts_few waits m cs C (e ∷ d ∷ xs) (more E (more D f)) =
      subst (λ (r : Result). (two_arguments who (request waits m) th d r).acted.used ≤ 256)
      (sym (evaluation_is A x X who W cs [] C (λ h. eval h e)))
      (on_few r.outcome (used_cells r.cells) (cell_words r.cells) _ F.cells.room
      (λ v. value_few r.cells F.cells d D (last_argument (request waits m) th (value_word v))
      (λ q h. then_few (used_cells q.cells) h th q.outcome _ (λ _. h))))
    where
      r : EvalResult
      r = eval (evaluator (turn_at A x cs [])) e cs

      F : EvalFits n (eval (evaluator (turn_at A x cs [])) e cs)
      F = eval_fits A x X who W cs [] C e E

  pub statement_few : (cs : List Stored) → CellsFit n cs → (st : Stmt) → Parts fs n st
      → (statement_in who (thread_words_of x) (used_cells cs) (cell_words cs) st).acted.used ≤ 256
  statement_few cs C st of_nothing = C.room
  statement_few cs C st (of_generate {e = e}) = C.room
  statement_few cs C st (of_await {e = e}) = C.room
  statement_few cs C st of_cooperate = cooperates_few (used_cells cs) C.room th
  statement_few cs C st (of_seq {a =
      a} {b = b} i j) = two_few (used_cells cs) C.room th (root_s a) (root_s b)
  statement_few cs C st (of_do {q =
      q} {a = a} p i) = does_few (used_cells cs) C.room th q (root_s a)
  statement_few cs C st (of_start {m = m} {xs = xs} es) = starts_few false m cs C xs es
  statement_few cs C st (of_wait {m = m} {xs = xs} es) = starts_few true m cs C xs es
  statement_few cs C st (of_let {x = e} {a = a} E i) =
      value_few cs C e E (lets_on th (root_s a)) (λ r h. then_few (used_cells r.cells) h th r.outcome _ (λ v. lets_few (used_cells r.cells) h th (value_word v) (root_s a)))
  statement_few cs C st (of_store {x = d} {y = e} D E) =
      subst (λ (r : Result). (stores_on th r).acted.used ≤ 256)
      (sym (evaluation_is A x X who W cs [] C (λ h. storing h d e)))
      (let l = (fit_storing (evaluator (turn_at A x cs [])) cs (here_fits A x X who W cs []) C D E).cells.room in
      then_few (used_cells (storing (evaluator (turn_at A x cs [])) d e cs).cells) l th (storing (evaluator (turn_at A x cs [])) d e cs).outcome _ (λ _. l))
  statement_few cs C st (of_if {x = e} {a = a} {b = b} E i j) =
      value_few cs C e E (chooses_on th (root_s a) (root_s b))
      (λ r h. then_few (used_cells r.cells) h th r.outcome _ (λ v. truth_few (used_cells r.cells) h th v _ _ (one_few (used_cells r.cells) h th (root_s a)) (one_few (used_cells r.cells) h th (root_s b))))
  statement_few cs C st (of_while {i = i} {x = e} {a = a} E j) =
      value_few cs C e E (loops_on th (root_s a) i)
      (λ r h. then_few (used_cells r.cells) h th r.outcome _ (λ v. truth_few (used_cells r.cells) h th v _ _ (two_few (used_cells r.cells) h th (root_s a) i) h))
