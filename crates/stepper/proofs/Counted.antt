-- A turn counts as many accesses as the rules list, and no more than four digits can say. Assumes
-- nothing.
use Prim.Native.Nat.{ℕ, zero, suc, ◌+◌, ◌<◌, ◌≤◌}
use mathlib.Core.Path.{◌≡◌, refl, sym, ap, ap₂, ◌∙◌, subst}
use mathlib.Core.List.{List, [], ◌∷◌, ◌++◌}
use native.Mathlib.Omega.{arith}
use lib.ListN.{length, length-append}
use lib.Dec.{ltb, eqb}
use borrow.Author.Tests.{lt-ltb, le-ltb, ne_eqb}
use Rattle.basics.specs.Members.{All, more, none}
use Rattle.basics.proofs.Ifs.{if_all, if_yes, if_no}
use Rattle.language.specs.declared.kind.StatementKind.{StatementKind}
use Rattle.language.specs.declared.kind.StatementKind.TheVariants as K
use Rattle.language.specs.declared.kind.Kind.{Kind}
use Rattle.language.specs.declared.kind.Kind.TheVariants.{Header, Declared, Module, Statement}
use Rattle.language.specs.declared.kind.Kind.TheVariants.{Expression, Unknown}
use Rattle.language.specs.declared.frame.Frame.{Frame}
use Rattle.program.specs.Trees.{Expr, Stmt}
use Rattle.program.specs.Trees.{while, frame_at, root_s, arguments, statement_with}
use Rattle.program.specs.Trees.{statement_of, statement_to, statement_at, expression_at}
use Rattle.program.specs.Programs.{Program}
use Rattle.layout.specs.Faults.{NoFault}
use Rattle.machine.specs.Accesses.{Access}
use Rattle.machine.specs.State.{State, Stored, Thread, Item, run, back, drop, thread_at, used_cells}
use Rattle.machine.specs.Evaluation.{EvalResult, eval, storing}
use Rattle.machine.specs.Turns.{Turn, evaluator}
use Rattle.machine.specs.Statements.{step_statement}
use Rattle.machine.specs.Inner.Parts.{turn, step_items, step_thread}
use Rattle.machine.specs.Steps.{step_thread_within}
use Rattle.machine.specs.Words.{item_word}
use Rattle.machine.specs.Inner.Blocks.{cell_words}
use Rattle.machine.specs.declared.value.Outcome.{Outcome}
use Rattle.machine.specs.declared.value.Outcome.TheVariants.{Is, Foreign, Spent, Stuck}
use Rattle.machine.specs.Shapes.{ItemFits, run_fits, back_fits, drop_fits, ThreadFits}
use Rattle.machine.proofs.FewAccesses.{eval_few, storing_few}
use Rattle.machine.proofs.StepAccesses as rules
use Rattle.machine.proofs.StepAccesses.{valued, second, argument_accesses}
use Rattle.machine.proofs.KeptCells.{CellsFit}
use Rattle.machine.proofs.KeptCells.{ExprFits}
use Rattle.machine.proofs.KeptShape.{Parts, of_nothing, of_cooperate, of_seq, of_do, of_start}
use Rattle.machine.proofs.KeptShape.{of_wait, of_let, of_store, of_if, of_while, parts_of}
use Rattle.machine.proofs.KeptShape.{of_generate, of_await}
use Rattle.operations.specs.declared.Who.{Who}
use Rattle.operations.specs.Inner.Results.{Result}
use Rattle.evaluator.specs.Inner.Results.{here_of, cells_from, evaluated_by}
use Rattle.states.specs.Inner.Threads.{thread_words_of}
use Rattle.states.proofs.StackLaws.{with_continuation, top_item_is}
use Rattle.turns.specs.Inner.Acts.{variables_in, top_in}
use Rattle.turns.specs.Inner.TurnCounts.{eval_count, store_count, second_count, start_count}
use Rattle.turns.specs.Inner.TurnCounts.{statement_count, item_count, turn_count}
use Rattle.reach.proofs.FewNodes.{nodes_most}
use Rattle.stepper.proofs.Transitions.{Acts, turn_at}
use Rattle.stepper.proofs.Arguments.{FewArguments, few_arguments_at}
use Rattle.stepper.proofs.Items.{IsWho, evaluation_same, evaluation_is, eval_fits}

length-second : (o : Outcome) (l : List Access) → second_count o (length l) ≡ length (second o l)
length-second (Is v) l = refl
length-second Foreign l = refl
length-second Spent l = refl
length-second Stuck l = refl

-- ---- a statement
module _ {fs : List Frame} {P : Program} {n : ℕ} {w : List ℕ} {s : State} {c k : ℕ} (A : Acts fs P n w s c k) (x : Thread) (X : ThreadFits fs n x) (who : Who) (W : IsWho P k x who) where
  abbrev vs : List ℕ
  vs = variables_in (thread_words_of x)

  module _ (cs : List Stored) (acc : List Access) (C : CellsFit n cs) where
    abbrev u : Turn
    u = turn_at A x cs acc

    eval_count_lem : (e : Expr)
        → eval_count who e (variables_in (thread_words_of x)) (used_cells cs) (cell_words cs)
        ≡ length (valued (turn_at A x cs acc) e).accesses
    eval_count_lem e =
        ap (λ (r : EvalResult). length r.accesses)
        (evaluation_same A x X who W cs acc C (λ h. eval h e))

    store_count_lem : (d e : Expr)
        → store_count who d e (variables_in (thread_words_of x)) (used_cells cs) (cell_words cs)
        ≡ length (storing (evaluator (turn_at A x cs acc)) d e cs).accesses
    store_count_lem d e =
        ap (λ (r : EvalResult). length r.accesses)
        (evaluation_same A x X who W cs acc C (λ h. storing h d e))

  start_count_lem : (cs : List Stored) (acc : List Access) → CellsFit n cs → (xs : List Expr)
      → length xs ≤ 2 → All (ExprFits n) xs
      → start_count who xs (variables_in (thread_words_of x)) (used_cells cs) (cell_words cs)
      ≡ length (argument_accesses (turn_at A x cs acc) xs)
  start_count_lem cs acc C [] h none = refl
  start_count_lem cs acc C (e ∷ []) h (more E none) =
      let r = valued (turn_at A x cs acc) e in
      let z = length-append r.accesses (second r.outcome []) in
      let y = last_none r.outcome in
      eval_count_lem cs acc C e ∙ omega arith
    where
      last_none : (o : Outcome) → length (second o []) ≡ 0
      last_none (Is v) = refl
      last_none Foreign = refl
      last_none Spent = refl
      last_none Stuck = refl
  start_count_lem cs acc C (e ∷ d ∷ []) h (more E (more D none)) =
      let u = turn_at A x cs acc in
      let r = valued u e in
      let next = turn_at A x r.cells (acc ++ r.accesses) in
      let rest = (valued next d).accesses ++ second (valued next d).outcome [] in
      let F = (eval_fits A x X who W cs acc C e E).cells in
      ap
      (λ (q : Result).
      eval_count who e (variables_in (thread_words_of x)) (used_cells cs) (cell_words cs)
      + second_count q.outcome
      (eval_count who d (variables_in (thread_words_of x)) q.used q.words))
      (evaluation_is A x X who W cs acc C (λ h. eval h e))
      ∙ ap₂ (λ (i j : ℕ). i + second_count r.outcome j) (eval_count_lem cs acc C e)
      (start_count_lem r.cells (acc ++ r.accesses) F (d ∷ []) (omega arith) (more D none))
      ∙ ap (λ (i : ℕ). length r.accesses + i) (length-second r.outcome rest)
      ∙ sym (length-append r.accesses (second r.outcome rest))
  start_count_lem cs acc C (e ∷ d ∷ f ∷ xs) h all = absurd (omega arith)

  statement_count_lem : (cs : List Stored) → CellsFit n cs → (st : Stmt) → Parts fs n st
      → FewArguments st
      → statement_count who st (variables_in (thread_words_of x)) (used_cells cs) (cell_words cs)
      ≡ length (step_statement (turn_at A x cs []) st).accesses
  statement_count_lem cs C st of_nothing h =
      ap length (sym (rules.nothing_keeps (turn_at A x cs [])))
  statement_count_lem cs C st of_cooperate h =
      ap length (sym (rules.cooperate_keeps (turn_at A x cs [])))
  statement_count_lem cs C st (of_generate {e = e}) h =
      ap length (sym (rules.generate_keeps (turn_at A x cs []) e))
  statement_count_lem cs C st (of_await {e = e}) h =
      ap length (sym (rules.await_keeps (turn_at A x cs []) e))
  statement_count_lem cs C st (of_seq {a = a} {b = b} i j) h =
      ap length (sym (rules.seq_keeps (turn_at A x cs []) a b))
  statement_count_lem cs C st (of_do {q = q} {a = a} p i) h =
      ap length (sym (rules.do_keeps (turn_at A x cs []) q a))
  statement_count_lem cs C st (of_start {m = m} {xs = xs} es) h =
      start_count_lem cs [] C xs h es
      ∙ ap length (sym (rules.start_accesses (turn_at A x cs []) m xs))
  statement_count_lem cs C st (of_wait {m = m} {xs = xs} es) h =
      start_count_lem cs [] C xs h es
      ∙ ap length (sym (rules.wait_accesses (turn_at A x cs []) m xs))
  statement_count_lem cs C st (of_let {x = e} {a = a} E i) h =
      eval_count_lem cs [] C e ∙ ap length (sym (rules.let_accesses (turn_at A x cs []) e a))
  statement_count_lem cs C st (of_store {x = d} {y = e} D E) h =
      store_count_lem cs [] C d e ∙ ap length (sym (rules.store_accesses (turn_at A x cs []) d e))
  statement_count_lem cs C st (of_if {x = e} {a = a} {b = b} E i j) h =
      eval_count_lem cs [] C e ∙ ap length (sym (rules.if_accesses (turn_at A x cs []) e a b))
  statement_count_lem cs C st (of_while {i = i} {x = e} {a = a} E j) h =
      eval_count_lem cs [] C e
      ∙ ap length (sym (rules.while_accesses (turn_at A x cs []) e a (while i e a)))

-- ---- the whole turn
module _ {fs : List Frame} {P : Program} {n : ℕ} {w : List ℕ} {s : State} {c k : ℕ} (A : Acts fs P n w s c k) (who : Who) (W : IsWho P k (thread_at s (suc k)) who) where
  abbrev x : Thread
  x = thread_at s (suc k)

  fits : ThreadFits fs n (thread_at s (suc k))
  fits = A.shape.threads k A.there

  abbrev values : List ℕ
  values = variables_in (thread_words_of (thread_at s (suc k)))

  abbrev used : ℕ
  used = used_cells s.cells

  abbrev ws : List ℕ
  ws = cell_words s.cells

  -- the thread with the items that are left
  rest_fits : (is : List Item) → All (ItemFits fs n) is → length is ≤ 25
      → ThreadFits fs n (with_continuation is (thread_at s (suc k)))
  rest_fits is f l =
      record {
        place = fits.place;
        starter = fits.starter;
        items_room = l;
        variables_room = fits.variables_room;
        items = f;
        values = fits.values;
      }

  who_rest : (is : List Item) → IsWho P k (with_continuation is (thread_at s (suc k))) who
  who_rest is = record { thread = W.thread; place = W.place; shared = W.shared }

  item_count_lem : (i : Item) (is : List Item) → ItemFits fs n i → All (ItemFits fs n) is
      → length is < 25
      → item_count fs who (item_word i) values used ws
      ≡ length (step_items P s c (suc k) (i ∷ is)).accesses
  unfolding item_count item_word
  item_count_lem (run st) is (run_fits l q e) f h =
      if_yes _ _ (lt-ltb (root_s st) 1024 l)
      ∙ ap (λ (y : Stmt). statement_count who y values used ws) e
      ∙ statement_count_lem A (with_continuation is x) (rest_fits is f (omega arith)) who (who_rest is)
      s.cells (record { room = A.shape.cells_room; each = A.shape.cells }) st
      (parts_of fs P n A.file (run_fits l q e))
      (subst FewArguments e (few_arguments_at fs (root_s st)))
  item_count_lem (back q) is (back_fits l p) f h =
      let a : 1024 ≤ 1024 + q = omega arith in
      if_no _ _ (le-ltb (1024 + q) 1024 a) ∙ ap length (sym (rules.back_keeps _ q))
  item_count_lem drop is drop_fits f h =
      if_no _ _ (le-ltb 2048 1024 (omega arith)) ∙ ap length (sym (rules.drops_keeps _))

  count_from : (is : List Item) → All (ItemFits fs n) is → length is ≤ 25
      → turn_count fs who (length is) (top_in (thread_words_of (with_continuation is x))) values used ws
      ≡ length (step_items P s c (suc k) is).accesses
  unfolding turn_count
  count_from [] f h = if_yes _ _ refl ∙ ap length (sym (rules.ends_keeps (turn P s c (suc k) [])))
  count_from (i ∷ is) (more p f) h =
      if_no _ _ (ne_eqb (suc (length is)) 0 (λ z. omega arith))
      ∙ ap (λ (v : ℕ). item_count fs who v values used ws)
      (top_item_is (with_continuation is x) i (omega arith))
      ∙ item_count_lem i is p f (omega arith)

  pub turn_count_lem :
      turn_count fs who (thread_words_of (thread_at s (suc k))).items
      (top_in (thread_words_of (thread_at s (suc k)))) values used ws
      ≡ length (step_thread P s c (suc k)).accesses
  unfolding step_thread_within
  turn_count_lem = count_from x.continuation fits.items fits.items_room

-- ---- at most as many as there are nodes in two expressions of the file, and a store
module _ {fs : List Frame} (fine : NoFault fs) (few : length fs ≤ 1024) (who : Who) (vs : List ℕ) where
  value_few : (i m : ℕ) (ws : List ℕ) → eval_count who (expression_at fs i) vs m ws ≤ 1024
  value_few i m ws =
      let a = eval_few (here_of who vs) (expression_at fs i) (cells_from m ws) in
      let b = nodes_most fine few i in
      omega arith

  stored_few : (i j m : ℕ) (ws : List ℕ)
      → store_count who (expression_at fs i) (expression_at fs j) vs m ws ≤ 2049
  stored_few i j m ws =
      let x = expression_at fs i in
      let y = expression_at fs j in
      let a = storing_few (here_of who vs) x y (cells_from m ws) in
      let b = nodes_most fine few i in
      let d = nodes_most fine few j in
      omega arith

  second_few : (o : Outcome) (j : ℕ) → second_count o j ≤ j
  second_few (Is v) j = omega arith
  second_few Foreign j = omega arith
  second_few Spent j = omega arith
  second_few Stuck j = omega arith

  arguments_few : (a b m : ℕ) (ws : List ℕ)
      → start_count who (arguments (λ j. expression_at fs j) a b) vs m ws ≤ 2049
  arguments_few zero b m ws = omega arith
  arguments_few (suc a) zero m ws = let p = value_few (suc a) m ws in omega arith
  arguments_few (suc a) (suc b) m ws =
      let r = evaluated_by who (expression_at fs (suc a)) vs m ws in
      let p = value_few (suc a) m ws in
      let q = value_few (suc b) r.used r.words in
      let z = second_few r.outcome (eval_count who (expression_at fs (suc b)) vs r.used r.words) in
      omega arith

  statement_few : (i m : ℕ) (ws : List ℕ) → statement_count who (statement_at fs i) vs m ws ≤ 2049
  unfolding statement_at statement_to
  statement_few i m ws = of (frame_at fs i).kind
    where
      f : Frame
      f = frame_at fs i

      one : (j : ℕ) → eval_count who (expression_at fs j) vs m ws ≤ 2049
      one j = let p = value_few j m ws in omega arith

      by : (k : StatementKind)
          → statement_count who
          (statement_with (λ j. expression_at fs j) (λ j. statement_to i fs j) i (frame_at fs i) k) vs m ws
          ≤ 2049
      by K.Nothing = omega arith
      by K.Then = omega arith
      by K.DoAt = omega arith
      by K.Start = arguments_few f.a f.b m ws
      by K.StartWait = arguments_few f.a f.b m ws
      by K.Cooperate = omega arith
      by K.Let = one f.a
      by K.Store = stored_few f.a f.b m ws
      by K.If = one f.a
      by K.While = one f.a
      by K.Generate = omega arith
      by K.Await = omega arith

      of : (k : Kind)
          → statement_count who
          (statement_of (λ j. expression_at fs j) (λ j. statement_to i fs j) i (frame_at fs i) k) vs m ws
          ≤ 2049
      of (Statement k) = by k
      of (Expression k) = omega arith
      of Header = omega arith
      of (Declared d) = omega arith
      of Module = omega arith
      of Unknown = omega arith

  pub turn_few_accesses : (items item m : ℕ) (ws : List ℕ)
      → turn_count fs who items item vs m ws < 65536
  unfolding turn_count item_count
  turn_few_accesses items item m ws =
      if_all (λ (j : ℕ). j < 65536) (eqb items 0) _ _ (λ _. omega arith)
      (λ _. if_all (λ (j : ℕ). j < 65536) (ltb item 1024) _ _
      (λ _. let p = statement_few item m ws in omega arith) (λ _. omega arith))
