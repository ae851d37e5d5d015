-- A thread's turn, on words, comes to what the rules say of its top item. Assumes nothing.
use Prim.Native.Nat.{ℕ, suc, ◌≤◌}
use mathlib.Core.Path.{◌≡◌, refl, ap, ◌∙◌, subst}
use mathlib.Core.List.{List, [], ◌∷◌, ◌++◌, map}
use mathlib.Core.Bool.{Bool, true, false}
use native.Mathlib.Omega.{arith}
use lib.ListN.{length, length-map}
use Rattle.language.specs.declared.refusal.Rule.{Rule}
use Rattle.basics.specs.Members.{All, none, more}
use Rattle.language.specs.declared.frame.Frame.{Frame}
use Rattle.program.specs.Trees.{Expr, Stmt, while, root_s}
use Rattle.program.specs.Programs.{Program}
use Rattle.machine.specs.Accesses.{Access}
use Rattle.machine.specs.State.{State, Stored, Thread, run, drop, used_cells}
use Rattle.machine.specs.Evaluation.{Here, EvalResult, Evaluation, eval, storing}
use Rattle.machine.specs.Turns.{StepResult, Turn, continuation, variables, accept, evaluator}
use Rattle.machine.specs.Turns.{after_eval}
use Rattle.machine.specs.Turns.{go_on, with_value, with_values, by_condition, stay, settled}
use Rattle.machine.specs.Statements.{step_nothing, step_seq, step_start, step_start_wait, step_let}
use Rattle.machine.specs.Statements.{step_store, step_if, step_while, starting, started_wait}
use Rattle.machine.specs.Statements.{with_started, step_statement}
use Rattle.machine.specs.Words.{item_word, value_word, word_value}
use Rattle.machine.specs.Inner.Blocks.{cell_words}
use Rattle.stepper.specs.Inner.Files.{as_committed}
use Rattle.machine.specs.declared.value.Value.{Value}
use Rattle.machine.specs.declared.value.Value.TheVariants.{Number, Truth, Cell}
use Rattle.machine.specs.declared.value.Outcome.{Outcome}
use Rattle.machine.specs.declared.value.Outcome.TheVariants.{Is, Foreign, Spent, Stuck}
use Rattle.machine.proofs.Round.{value_back, map_back}
use Rattle.machine.specs.Shapes.{ValueFits, ThreadFits}
use Rattle.machine.proofs.KeptCells.{CellsFit, HereFits, ExprFits, OutcomeFits, EvalFits, fit_eval}
use Rattle.machine.proofs.KeptCells.{fit_storing}
use Rattle.machine.proofs.KeptShape.{Parts, of_nothing, of_cooperate, of_seq, of_do, of_start}
use Rattle.machine.proofs.KeptShape.{of_wait, of_let, of_store, of_if, of_while}
use Rattle.machine.proofs.KeptShape.{of_generate, of_await}
use Rattle.operations.specs.declared.Who.{Who}
use Rattle.operations.specs.Inner.Results.{Result}
use Rattle.evaluator.specs.Inner.Results.{here_of, cells_from, result_of, on_words}
use Rattle.evaluator.proofs.Holding.{Holds, holds_cells}
use Rattle.states.specs.Inner.Threads.{thread_words_of}
use Rattle.acts.specs.Inner.Transitions.{TurnResult}
use Rattle.turns.specs.Inner.Acts.{TurnOutcome, turn_outcome, then_acts, then_on, by_truth_in}
use Rattle.turns.specs.Inner.Acts.{lets_on, stores_on}
use Rattle.turns.specs.Inner.Acts.{chooses_on, loops_on, variables_in, evaluated_in, stored_in}
use Rattle.turns.specs.Inner.Acts.{request}
use Rattle.turns.specs.Inner.Acts.{start_turn, one_argument, last_argument, two_arguments}
use Rattle.turns.specs.Inner.Acts.{statement_in}
use Rattle.stepper.proofs.Grows.{Grown, grown_on, grows_eval, UnlessValue, unless_on}
use Rattle.stepper.proofs.Grows.{unless_grown, grows_storing}
use Rattle.stepper.proofs.Transitions.{Acts, turn_at, commit, commit_on, refuse_is}
use Rattle.stepper.proofs.Arguments.{FewArguments}
use Rattle.stepper.proofs.Variables.{variables_words}
use Rattle.stepper.proofs.StartTransitions.{argued, start_commits, started_is, waits_is}
use Rattle.stepper.proofs.Moves.{stay_none, stay_one, stay_two, stay_let, does_is}
use Rattle.stepper.proofs.Moves.{cooperates_is}
use Rattle.stepper.proofs.Signals.{generates_is, awaits_is}

-- who evaluates is thread k + 1, which is x
pub record IsWho (P : Program) (k : ℕ) (x : Thread) (who : Who) : Type 0 where
  pub thread : who.thread ≡ suc k
  pub place : who.place.number ≡ x.place
  pub shared : who.shared ≡ length P.shared

module _ {fs : List Frame} {P : Program} {n : ℕ} {w : List ℕ} {s : State} {c k : ℕ} (A : Acts fs P n w s c k) (x : Thread) (X : ThreadFits fs n x) (who : Who) (W : IsWho P k x who) where
  abbrev vs : List Value
  vs = x.variables

  -- ---- an evaluation on words is the one of the rules
  module _ (cs : List Stored) (acc : List Access) where
    here_same : here_of who (variables_in (thread_words_of x)) ≡ evaluator (turn_at A x cs acc)
    here_same = λ i. record {
      thread = W.thread i;
      place = W.place i;
      variables = (ap (map word_value) (variables_words x X.variables_room) ∙ map_back ValueFits value_word word_value value_back vs X.values) i;
      shared = W.shared i;
    }

    pub here_fits : HereFits (evaluator (turn_at A x cs acc))
    here_fits = record { thread = (omega arith, (let a = A.shape.threads_room in let b = A.there in omega arith)); values = X.values; shared = A.file.shared_room }

    module _ (C : CellsFit n cs) where
      held : Holds (used_cells cs) (cell_words cs) cs
      held = record { count = refl; words = refl; room = C.room; each = λ j g. (C.each j g).value }

      pub evaluation_same : (m : Here → Evaluation)
          → m (here_of who (variables_in (thread_words_of x))) (cells_from (used_cells cs) (cell_words cs))
          ≡ m (evaluator (turn_at A x cs acc)) cs
      evaluation_same m =
          ap (m (here_of who (variables_in (thread_words_of x))))
          (holds_cells (used_cells cs) (cell_words cs) cs held)
          ∙ ap (λ (h : Here). m h cs) here_same

      pub evaluation_is : (m : Here → Evaluation)
          → on_words (m (here_of who (variables_in (thread_words_of x)))) (used_cells cs) (cell_words cs)
          ≡ result_of (m (evaluator (turn_at A x cs acc)) cs)
      unfolding on_words
      evaluation_is m = ap result_of (evaluation_same m)

      pub eval_fits : (e : Expr) → ExprFits n e
          → EvalFits n (eval (evaluator (turn_at A x cs acc)) e cs)
      eval_fits e E = fit_eval (evaluator (turn_at A x cs acc)) cs here_fits C E

  -- ---- after an evaluation
  module _ (cs : List Stored) (acc : List Access) (l : used_cells cs ≤ 256) where
    then_is : (o : Outcome) (K : Value → TurnResult) (F : Value → Turn → StepResult)
        → UnlessValue o (Grown s.cells cs)
        → ((v : Value) → o ≡ Is v → commit A (K v) cs ≡ as_committed w (F v (turn_at A x cs acc)))
        → commit A (then_acts o (thread_words_of x) (used_cells cs) K) cs
        ≡ as_committed w (go_on (turn_at A x cs acc) o F)
    then_is (Is v) K F g f = f v refl
    then_is Foreign K F g f = refuse_is A x cs acc Rule.Foreign (thread_words_of x) g l
    then_is Spent K F g f = refuse_is A x cs acc Rule.CellsSpent (thread_words_of x) g l
    then_is Stuck K F g f = refuse_is A x cs acc Rule.Stuck (thread_words_of x) g l

    by_truth : (v : Value) (a b : TurnResult) (y z : StepResult) → Grown s.cells cs
        → commit A a cs ≡ as_committed w y → commit A b cs ≡ as_committed w z
        → commit A (by_truth_in v (thread_words_of x) (used_cells cs) a b) cs
        ≡ as_committed w (by_condition (turn_at A x cs acc) v y z)
    by_truth (Truth true) a b y z g f h = f
    by_truth (Truth false) a b y z g f h = h
    by_truth (Number m) a b y z g f h = refuse_is A x cs acc Rule.Stuck (thread_words_of x) g l
    by_truth (Cell d) a b y z g f h = refuse_is A x cs acc Rule.Stuck (thread_words_of x) g l

  module _ (cs : List Stored) (acc : List Access) (C : CellsFit n cs) (g : Grown s.cells cs) where
    abbrev u : Turn
    u = turn_at A x cs acc

    -- the value of an expression, and the turn after it
    module _ (e : Expr) (E : ExprFits n e) where
      abbrev r : EvalResult
      r = eval (evaluator u) e cs

      fits : EvalFits n r
      fits = eval_fits cs acc C e E

      grown : Grown s.cells r.cells
      grown = grown_on g (grows_eval (evaluator u) e cs)

      value_is : (On : Result → TurnOutcome) (K : Value → TurnResult) (F : Value → Turn → StepResult)
          → On (result_of r)
          ≡ turn_outcome (then_acts r.outcome (thread_words_of x) (used_cells r.cells) K)
          (cell_words r.cells)
          → ((v : Value) → OutcomeFits (Is v) → commit A (K v) r.cells ≡ as_committed w (F v (after_eval u r)))
          → commit_on A (On (evaluated_in who (thread_words_of x) e (used_cells cs) (cell_words cs)))
          ≡ as_committed w (with_value u (λ h. eval h e) F)
      value_is On K F z f =
          ap (λ (q : Result). commit_on A (On q)) (evaluation_is cs acc C (λ h. eval h e))
          ∙ ap (commit_on A) z
          ∙ then_is r.cells (acc ++ r.accesses) fits.cells.room r.outcome K F
          (unless_grown r.outcome grown) (λ v q. f v (subst OutcomeFits q fits.outcome))

    -- ---- each kind of statement with expressions
    let_is : (e : Expr) (a : Stmt) → ExprFits n e
        → commit_on A (lets_on (thread_words_of x) (root_s a) (evaluated_in who (thread_words_of x) e (used_cells cs) (cell_words cs)))
        ≡ as_committed w (step_let u e a)
    unfolding step_let
    let_is e a E =
        value_is e E (lets_on (thread_words_of x) (root_s a)) _
        (λ v y. stay y (run a ∷ drop ∷ continuation y) (variables y ++ (v ∷ []))) refl
        (λ v _. stay_let A x X (r e E).cells (acc ++ (r e E).accesses) (grown e E) (fits e E).cells.room v a)

    if_is : (e : Expr) (a b : Stmt) → ExprFits n e
        → commit_on A (chooses_on (thread_words_of x) (root_s a) (root_s b) (evaluated_in who (thread_words_of x) e (used_cells cs) (cell_words cs)))
        ≡ as_committed w (step_if u e a b)
    unfolding step_if item_word
    if_is e a b E =
        value_is e E (chooses_on (thread_words_of x) (root_s a) (root_s b)) _ (λ v y. by_condition y v (stay y (run a ∷ continuation y) (variables y)) (stay y (run b ∷ continuation y) (variables y))) refl
        (λ v _. by_truth (r e E).cells (acc ++ (r e E).accesses) (fits e E).cells.room v _ _ _ _ (grown e E)
        (stay_one A x X (r e E).cells (acc ++ (r e E).accesses) (grown e E) (fits e E).cells.room (run a))
        (stay_one A x X (r e E).cells (acc ++ (r e E).accesses) (grown e E) (fits e E).cells.room (run b)))

    while_is : (i : ℕ) (e : Expr) (a : Stmt) → ExprFits n e
        → commit_on A (loops_on (thread_words_of x) (root_s a) i (evaluated_in who (thread_words_of x) e (used_cells cs) (cell_words cs)))
        ≡ as_committed w (step_while u e a (while i e a))
    unfolding step_while item_word
    while_is i e a E =
        value_is e E (loops_on (thread_words_of x) (root_s a) i) _ (λ v y. by_condition y v (stay y (run a ∷ run (while i e a) ∷ continuation y) (variables y)) (stay y (continuation y) (variables y))) refl
        (λ v _. by_truth (r e E).cells (acc ++ (r e E).accesses) (fits e E).cells.room v _ _ _ _ (grown e E)
        (stay_two A x X (r e E).cells (acc ++ (r e E).accesses) (grown e E) (fits e E).cells.room (run a) (run (while i e a)))
        (stay_none A x X (r e E).cells (acc ++ (r e E).accesses)))

    store_is : (d e : Expr) → ExprFits n d → ExprFits n e
        → commit_on A (stores_on (thread_words_of x) (stored_in who (thread_words_of x) d e (used_cells cs) (cell_words cs)))
        ≡ as_committed w (step_store u d e)
    unfolding step_store
    store_is d e D E =
        ap (λ (q : Result). commit_on A (stores_on (thread_words_of x) q))
        (evaluation_is cs acc C (λ h. storing h d e))
        ∙ then_is z.cells (acc ++ z.accesses) f.cells.room z.outcome _ (λ v y. stay y (continuation y) (variables y)) (unless_on z.outcome s.cells cs z.cells g (grows_storing (evaluator u) d e cs))
        (λ v _. stay_none A x X z.cells (acc ++ z.accesses))
      where
        z : EvalResult
        z = storing (evaluator u) d e cs

        f : EvalFits n (storing (evaluator u) d e cs)
        f = fit_storing (evaluator u) cs (here_fits cs acc) C D E

  -- ---- starts
  module _ (m : ℕ) where
    abbrev next : Bool → List Value → Turn → StepResult
    next true args y = started_wait y m args
    next false args y = accept y (with_started y m args (settled y y.self))

    start_is : (waits : Bool) (args : List Value) → length args ≤ 2
        → (cs : List Stored) (acc : List Access) (g : Grown s.cells cs) (l : used_cells cs ≤ 256)
        → commit A (argued A x X.place cs acc g l waits m args) cs
        ≡ as_committed w (starting (turn_at A x cs acc) m args (next waits args (turn_at A x cs acc)))
    start_is true args h cs acc g l =
        start_commits A x X.place cs acc g l m args true (started_wait (turn_at A x cs acc) m args)
        (λ known ob e r less. waits_is A x X.place cs acc g l m args (rw (length-map args value_word) h) known ob e less)
    start_is false args h cs acc g l =
        start_commits A x X.place cs acc g l m args false (next false args (turn_at A x cs acc))
        (λ known ob e r less. started_is A x X.place cs acc g l m args (rw (length-map args value_word) h) known ob e less r)

    module _ (waits : Bool) (cs : List Stored) (acc : List Access) (C : CellsFit n cs) (g : Grown s.cells cs) where
      then_on_lem : (o : Outcome) (K : Value → TurnOutcome) (F : Value → Turn → StepResult)
          → ((v : Value) → o ≡ Is v → commit_on A (K v) ≡ as_committed w (F v (turn_at A x cs acc)))
          → commit_on A (then_on o (thread_words_of x) (used_cells cs) (cell_words cs) K)
          ≡ as_committed w (go_on (turn_at A x cs acc) o F)
      then_on_lem (Is v) K F f = f v refl
      then_on_lem Foreign K F f = refuse_is A x cs acc Rule.Foreign (thread_words_of x) g C.room
      then_on_lem Spent K F f = refuse_is A x cs acc Rule.CellsSpent (thread_words_of x) g C.room
      then_on_lem Stuck K F f = refuse_is A x cs acc Rule.Stuck (thread_words_of x) g C.room

      -- the second of two, after the first one's value
      last_is : (e : Expr) → ExprFits n e → (v : Value)
          → commit_on A (last_argument (request waits m) (thread_words_of x) (value_word v) (evaluated_in who (thread_words_of x) e (used_cells cs) (cell_words cs)))
          ≡ as_committed w (with_value (turn_at A x cs acc) (λ h. eval h e) (λ d z. starting z m (v ∷ d ∷ []) (next waits (v ∷ d ∷ []) z)))
      last_is e E v =
          value_is cs acc C g e E (last_argument (request waits m) (thread_words_of x) (value_word v)) _ (λ d z. starting z m (v ∷ d ∷ []) (next waits (v ∷ d ∷ []) z)) refl
          (λ d _. start_is waits (v ∷ d ∷ []) (omega arith) (r cs acc C g e E).cells (acc ++ (r cs acc C g e E).accesses) (grown cs acc C g e E) (fits cs acc C g e E).cells.room)

    starts_is : (waits : Bool) (cs : List Stored) (acc : List Access) (C : CellsFit n cs) (g : Grown s.cells cs) (xs : List Expr)
        → length xs ≤ 2 → All (ExprFits n) xs
        → commit_on A
        (start_turn who (request waits m) (thread_words_of x) (used_cells cs) (cell_words cs) xs)
        ≡ as_committed w
        (with_values (turn_at A x cs acc) xs (λ args z. starting z m args (next waits args z)))
    unfolding with_values
    starts_is waits cs acc C g [] h none = start_is waits [] (omega arith) cs acc g C.room
    starts_is waits cs acc C g (e ∷ []) h (more E none) =
        value_is cs acc C g e E (one_argument (request waits m) (thread_words_of x)) _
        (λ v z. starting z m (v ∷ []) (next waits (v ∷ []) z)) refl
        (λ v _. start_is waits (v ∷ []) (omega arith) (r cs acc C g e E).cells (acc ++ (r cs acc C g e E).accesses) (grown cs acc C g e E) (fits cs acc C g e E).cells.room)
    starts_is waits cs acc C g (e ∷ d ∷ []) h (more E (more D none)) =
        ap (λ (q : Result). commit_on A (two_arguments who (request waits m) (thread_words_of x) d q))
        (evaluation_is cs acc C (λ i. eval i e))
        ∙ then_on_lem waits (r cs acc C g e E).cells (acc ++ (r cs acc C g e E).accesses)
        (fits cs acc C g e E).cells (grown cs acc C g e E) (r cs acc C g e E).outcome _ _
        (λ v _. last_is waits (r cs acc C g e E).cells (acc ++ (r cs acc C g e E).accesses) (fits cs acc C g e E).cells (grown cs acc C g e E) d D v)
    starts_is waits cs acc C g (e ∷ d ∷ f ∷ xs) h all = absurd (omega arith)

  -- ---- every statement
  pub statement_is : (cs : List Stored) (acc : List Access) → CellsFit n cs → Grown s.cells cs
      → (st : Stmt) → Parts fs n st → FewArguments st
      → commit_on A (statement_in who (thread_words_of x) (used_cells cs) (cell_words cs) st)
      ≡ as_committed w (step_statement (turn_at A x cs acc) st)
  unfolding step_nothing step_seq step_start step_start_wait item_word
  statement_is cs acc C g st of_nothing h = stay_none A x X cs acc
  statement_is cs acc C g st of_cooperate h = cooperates_is A x X cs acc g C.room
  statement_is cs acc C g st (of_seq {a =
      a} {b = b} i j) h = stay_two A x X cs acc g C.room (run a) (run b)
  statement_is cs acc C g st (of_do {q = q} {a = a} p i) h = does_is A x X cs acc g C.room q a p
  statement_is cs acc C g st (of_start {m =
      m} {xs = xs} es) h = starts_is m false cs acc C g xs h es
  statement_is cs acc C g st (of_wait {m = m} {xs = xs} es) h = starts_is m true cs acc C g xs h es
  statement_is cs acc C g st (of_let {x = e} {a = a} E i) h = let_is cs acc C g e a E
  statement_is cs acc C g st (of_store {x = d} {y = e} D E) h = store_is cs acc C g d e D E
  statement_is cs acc C g st (of_if {x = e} {a = a} {b = b} E i j) h = if_is cs acc C g e a b E
  statement_is cs acc C g st (of_generate {e = e}) h = generates_is A x X cs acc g C.room e
  statement_is cs acc C g st (of_await {e = e}) h = awaits_is A x X cs acc g C.room e
  statement_is cs acc C g st (of_while {i = i} {x = e} {a = a} E j) h = while_is cs acc C g i e a E
