-- The act of a turn, its change made in a thread that looks so, is the turn of that thread, and
-- there is room for the change: `act_turns`. Assumes nothing.
use mathlib.Core.Path.{◌≡◌, refl, sym, ap, subst, ◌∙◌}
use mathlib.Core.Bool.{Bool, true, false}
use mathlib.Core.List.{List, [], ◌∷◌}
use Prim.Native.Nat.{ℕ, ◌+◌, ◌-◌, ◌%◌, ◌^◌, ◌<◌, ◌≤◌}
use native.Mathlib.Omega.{arith}
use lib.Dec.{ltb, eqb}
use Rattle.basics.proofs.Ifs.{if_all, if_yes, if_no, yes, no}
use Rattle.language.specs.declared.frame.Frame.{Frame}
use Rattle.program.specs.Trees.{Expr, Stmt, nothing, seq, do_at, start, start_wait, cooperate}
use Rattle.program.specs.Trees.{let_in, store}
use Rattle.program.specs.Trees.{if_else, while, root_s, statement_at}
use Rattle.program.specs.Trees.{generate, await}
use Rattle.machine.specs.Words.{value_word}
use Rattle.machine.specs.declared.value.Value.{Value}
use Rattle.machine.specs.declared.value.Outcome.{Outcome}
use Rattle.machine.specs.declared.value.Outcome.TheVariants.{Is, Foreign, Spent, Stuck}
use Rattle.operations.specs.declared.Who.{Who}
use Rattle.operations.specs.Inner.Results.{Result}
use Rattle.operations.specs.Inner.Heaps.{cells_in, accesses_in}
use Rattle.operations.proofs.HeapLaws.{sum_wraps}
use Rattle.evaluator.specs.Inner.Results.{evaluated_on, stored_on}
use Rattle.states.specs.declared.thread.ThreadWords.{ThreadWords}
use Rattle.states.specs.Inner.Stacks.{pop_item}
use Rattle.acts.specs.declared.act.Transition.TheVariants.{Stays, Leaves}
use Rattle.acts.specs.declared.act.Transition.TheVariants.{Generates, Awaits}
use Rattle.acts.specs.declared.act.Change.TheVariants.{End}
use Rattle.acts.specs.Inner.Transitions.{TurnAnswer, TurnResult, acted_in, action, popped, turned}
use Rattle.turns.specs.declared.counts.Counts.{Counts}
use Rattle.turns.specs.declared.start.Request.{Request}
use Rattle.turns.specs.Inner.Acts.{turn_outcome, one_in, two_in, lets_in, then_acts, by_truth_in}
use Rattle.turns.specs.Inner.TurnCounts.{eval_count, second_count, start_count, statement_count}
use Rattle.turns.specs.Inner.TurnCounts.{item_count, turn_count}
use Rattle.turns.specs.Inner.Acts.{variables_in, evaluated_in, lets_on, stores_on, chooses_on}
use Rattle.turns.specs.Inner.Acts.{loops_on, request}
use Rattle.turns.specs.Inner.Acts.{statement_in, item_in, turn_in, Seen, WholeTurn}
use Rattle.turns.specs.Inner.Actions.{ActResult, act_result, place_at, let_after, store_after}
use Rattle.turns.specs.Inner.Actions.{choose_after, loop_after, act_after, start_two, first_then}
use Rattle.turns.specs.Inner.Actions.{start_act, value_of}
use Rattle.turns.specs.Inner.Actions.{statement_act, item_act, below, turn_act}
use Rattle.turns.proofs.SeenLaws.{Turns, Turning, stays_so, act_on, act_on_as, in_thread}
use Rattle.turns.proofs.SeenLaws.{stored_in_lem}
use Rattle.turns.proofs.SeenLaws.{as_it_is}
use Rattle.turns.proofs.PlainLaws.{plain, plain_eval, plain_store, eval_counts, eval_room}
use Rattle.turns.proofs.PlainLaws.{store_counts}
use Rattle.turns.proofs.StayLaws.{one_turns, two_turns, lets_turns, drops_turns}
use Rattle.turns.proofs.MoveLaws.{back_turns, does_turns, cooperates_turns}
use Rattle.turns.proofs.AfterLaws.{after_turns, truth_turns}
use Rattle.turns.proofs.StartLaws.{starts_turns}

-- ---- statements
module _ (who : Who) (counts : Counts) (vs : List ℕ) where
  -- after an evaluation
  act_after_lem : (r : Result) (k : Value → TurnAnswer) (f : ThreadWords → ℕ → Value → TurnResult)
      → ((n : ℕ) (x : Value) → Turns (k x) n who counts (λ th. f th n x))
      → Turning (act_after r k) who counts vs
      (λ th.
      let n = cells_in r.used in
      turn_outcome (then_acts r.outcome th n (f th n)) r.words)
  act_after_lem r k f h =
      let n = cells_in r.used in
      act_on (after_turns r.outcome n who counts k (λ th. f th n) (h n)) (λ th e. refl)

  let_turns : (body : ℕ) (r : Result)
      → Turning (act_after r (let_after counts body)) who counts vs (λ th. lets_on th body (plain r))
  let_turns body r =
      act_after_lem r (let_after counts body) (λ th n x. lets_in th n (value_word x) body)
      (λ n x. lets_turns who counts n (value_word x) body)

  store_turns : (r : Result)
      → Turning (act_after r store_after) who counts vs (λ th. stores_on th (plain r))
  store_turns r =
      act_after_lem r store_after (λ th n x. acted_in Stays th n) (λ n x. stays_so who counts n)

  choose_turns : (a b : ℕ) (r : Result)
      → Turning (act_after r (choose_after counts a b)) who counts vs
      (λ th. chooses_on th a b (plain r))
  choose_turns a b r =
      act_after_lem r (choose_after counts a b)
      (λ th n x. by_truth_in x th n (one_in th n a) (one_in th n b))
      (λ n x.
      truth_turns x n who counts _ _ (λ th. one_in th n a) (λ th. one_in th n b)
      (one_turns who counts n a) (one_turns who counts n b))

  loop_turns : (body again : ℕ) (r : Result)
      → Turning (act_after r (loop_after counts body again)) who counts vs
      (λ th. loops_on th body again (plain r))
  loop_turns body again r =
      act_after_lem r (loop_after counts body again)
      (λ th n x. by_truth_in x th n (two_in th n body again) (acted_in Stays th n))
      (λ n x.
      truth_turns x n who counts _ _ (λ th. two_in th n body again) (λ th. acted_in Stays th n)
      (two_turns who counts n body again) (stays_so who counts n))

module _
    (who : Who) (counts : Counts) (vs : List ℕ) (h : ℕ) (ws : List ℕ)
    (room : cells_in h ≤ 256) where
  abbrev n : ℕ
  n = cells_in h

  value_in : (th : ThreadWords) → variables_in th ≡ vs → (x : Expr)
      → plain (evaluated_on who x vs h ws) ≡ evaluated_in who th x (cells_in h) ws
  value_in th e x = plain_eval h ws room who vs x ∙ in_thread who th vs e n ws x

  statement_turns : (s : Stmt)
      → Turning (statement_act who counts s vs h ws) who counts vs
      (λ th. statement_in who th (cells_in h) ws s)
  statement_turns (nothing i) = act_on (stays_so who counts n) (λ th e. refl)
  statement_turns (seq i a b) = act_on (two_turns who counts n (root_s a) (root_s b)) (λ th e. refl)
  statement_turns (do_at i q a) =
      act_on (does_turns who counts n (place_at q) (root_s a)) (λ th e. refl)
  statement_turns (start i m xs) = starts_turns who (request false m) counts vs h ws room xs
  statement_turns (start_wait i m xs) = starts_turns who (request true m) counts vs h ws room xs
  statement_turns (cooperate i) = act_on (cooperates_turns who counts n) (λ th e. refl)
  statement_turns (let_in i x a) =
      act_on_as (let_turns who counts vs (root_s a) (evaluated_on who x vs h ws))
      (λ th e. ap (lets_on th (root_s a)) (value_in th e x))
  statement_turns (store i x y) =
      act_on_as (store_turns who counts vs (stored_on who x y vs h ws))
      (λ th e.
      ap (stores_on th) (plain_store h ws room who vs x y ∙ stored_in_lem who th vs e n ws x y))
  statement_turns (if_else i x a b) =
      act_on_as (choose_turns who counts vs (root_s a) (root_s b) (evaluated_on who x vs h ws))
      (λ th e. ap (chooses_on th (root_s a) (root_s b)) (value_in th e x))
  statement_turns (while i x a) =
      act_on_as (loop_turns who counts vs (root_s a) i (evaluated_on who x vs h ws))
      (λ th e. ap (loops_on th (root_s a) i) (value_in th e x))
  statement_turns (generate i e) = act_on (as_it_is who counts n (Generates e)) (λ th e. refl)
  statement_turns (await i e) = act_on (as_it_is who counts n (Awaits e)) (λ th e. refl)

  -- ---- the top item
  item_turns : (fs : List Frame) (item : ℕ)
      → Turning (item_act fs who counts item vs h ws) who counts vs
      (λ th. item_in fs who th (cells_in h) ws item)
  unfolding item_act item_in
  item_turns fs item =
      if_all (λ (a : ActResult). Turning a who counts vs (λ th. item_in fs who th n ws item))
      (ltb item 1024) _ _
      (λ h. act_on_as (statement_turns (statement_at fs item)) (λ th e. yes _ h refl))
      (λ h.
      if_all (λ (a : ActResult). Turning a who counts vs (λ th. item_in fs who th n ws item))
      (ltb item 2048) _ _
      (λ k.
      act_on (back_turns who counts n (place_at (item - 1024))) (λ th e. no _ h (yes _ k refl)))
      (λ k. act_on (drops_turns who counts n) (λ th e. no _ h (no _ k refl))))

-- ---- a thread without its top item, and what is seen of it
module _ (who : Who) (counts : Counts) (th : ThreadWords) (w : Seen who counts th) where
  no_items : {b : _} → eqb counts.items 0 ≡ b → eqb th.items 0 ≡ b
  no_items e = ap (λ (x : ℕ). eqb x 0) w.items ∙ e

  popped_none : eqb counts.items 0 ≡ true → popped th ≡ th
  unfolding popped
  popped_none e = if_yes th (pop_item th) (no_items e)

  popped_one : eqb counts.items 0 ≡ false → popped th ≡ pop_item th
  unfolding popped
  popped_one e = if_no th (pop_item th) (no_items e)

  below_seen : Seen who (below counts) (pop_item th)
  unfolding pop_item
  below_seen =
      record {
        place = w.place;
        items = ap (λ (x : ℕ). x - 1) w.items;
        variables = w.variables;
      }

same_variables : (th : ThreadWords) (vs : List ℕ)
    → variables_in th ≡ vs → variables_in (pop_item th) ≡ vs
unfolding pop_item
same_variables th vs e = e

-- ---- the whole turn
module _
    (fs : List Frame) (who : Who) (counts : Counts) (item : ℕ) (vs : List ℕ) (h : ℕ)
    (ws : List ℕ) (room : cells_in h ≤ 256) where
  abbrev cells : ℕ
  cells = cells_in h

  abbrev Whole : ActResult → Type 0
  Whole a =
      WholeTurn a.acted (cells_in a.used) a.cells who counts item vs
      (λ th. turn_in fs who th (cells_in h) ws)

  pub turn_turns : Whole (turn_act fs who counts item vs h ws)
  unfolding turn_act turn_in
  turn_turns =
      if_all Whole (eqb counts.items 0) _ _
      (λ k.
      record {
        thread =
            λ th w i t.
            ap (λ (x : ThreadWords). turn_outcome (turned (action Leaves End) cells x) ws)
            (popped_none who counts th w k)
            ∙ yes _ (no_items who counts th w k) refl;
        room = tt;
      })
      (λ k.
      let a = item_act fs who (below counts) item vs h ws in
      let m = cells_in a.used in
      let z = item_turns who (below counts) vs h ws room fs item in
      record {
        thread =
            λ th w i t.
            ap (λ (x : ThreadWords). turn_outcome (turned a.acted m x) a.cells)
            (popped_one who counts th w k)
            ∙ no _ (no_items who counts th w k)
            (z.thread (pop_item th) (below_seen who counts th w) (same_variables th vs i)
            ∙ ap (item_in fs who (pop_item th) cells ws) (sym t));
        room = z.room;
      })

  -- of what `act` promises: r is its act, after it m counts the cells and the accesses, and us are
  -- the words of the cells
  pub act_turns : (r : TurnAnswer) (m : ℕ) (us : List ℕ)
      → act_result r m us ≡ turn_act fs who counts item vs h ws
      → WholeTurn r (cells_in m) us who counts item vs (λ th. turn_in fs who th (cells_in h) ws)
  act_turns r m us e = subst Whole (sym e) turn_turns

  -- ---- the accesses
  abbrev CountsTo : ℕ → ℕ → Type 0
  CountsTo m k = accesses_in m ≡ (accesses_in h + k) % 2 ^ 48

  module _ (few : accesses_in h < 2 ^ 48) where
    none_counts : CountsTo h 0
    none_counts = omega arith

    first_only : (x : Expr)
        → CountsTo (evaluated_on who x vs h ws).used (eval_count who x vs (cells_in h) ws + 0)
    first_only x =
        let e : eval_count who x vs (cells_in h) ws + 0 ≡ eval_count who x vs (cells_in h) ws = omega arith in
        eval_counts h ws room who vs x ∙ ap (λ (i : ℕ). (accesses_in h + i) % 2 ^ 48) (sym e)

    second_counts : (q : Request) (x y : Expr) (o : Outcome)
        → CountsTo
        (first_then (value_of o) (evaluated_on who x vs h ws).used (evaluated_on who x vs h ws).words
        (λ v.
        let r = evaluated_on who x vs h ws in
        act_after (evaluated_on who y vs r.used r.words) (start_two q (value_word v)))).used
        (eval_count who x vs (cells_in h) ws
        + second_count o
        (eval_count who y vs (cells_in (evaluated_on who x vs h ws).used)
        (evaluated_on who x vs h ws).words))
    second_counts q x y (Is v) =
        let r = evaluated_on who x vs h ws in
        eval_counts r.used r.words (eval_room h ws room who vs x) who vs y
        ∙ ap (λ (i : ℕ). (i + eval_count who y vs (cells_in r.used) r.words) % 2 ^ 48)
        (eval_counts h ws room who vs x)
        ∙ sum_wraps (accesses_in h) (eval_count who x vs (cells_in h) ws)
        (eval_count who y vs (cells_in r.used) r.words)
    second_counts q x y Foreign = first_only x
    second_counts q x y Spent = first_only x
    second_counts q x y Stuck = first_only x

    start_counts : (q : Request) (xs : List Expr)
        → CountsTo (start_act who q xs vs h ws).used (start_count who xs vs (cells_in h) ws)
    start_counts q [] = none_counts
    start_counts q (x ∷ []) = eval_counts h ws room who vs x
    start_counts q (x ∷ y ∷ ys) =
        second_counts q x y (evaluated_on who x vs h ws).outcome
        ∙ ap
        (λ (r : Result).
        (accesses_in h
        + (eval_count who x vs (cells_in h) ws
        + second_count r.outcome (eval_count who y vs r.used r.words))) % 2 ^ 48)
        (plain_eval h ws room who vs x)

    statement_counts : (k : Counts) (s : Stmt)
        → CountsTo (statement_act who k s vs h ws).used (statement_count who s vs (cells_in h) ws)
    statement_counts k (nothing i) = none_counts
    statement_counts k (seq i a b) = none_counts
    statement_counts k (do_at i q a) = none_counts
    statement_counts k (start i m xs) = start_counts (request false m) xs
    statement_counts k (start_wait i m xs) = start_counts (request true m) xs
    statement_counts k (cooperate i) = none_counts
    statement_counts k (let_in i x a) = eval_counts h ws room who vs x
    statement_counts k (store i x y) = store_counts h ws room who vs x y
    statement_counts k (if_else i x a b) = eval_counts h ws room who vs x
    statement_counts k (while i x a) = eval_counts h ws room who vs x
    statement_counts k (generate i e) = none_counts
    statement_counts k (await i e) = none_counts

    item_counts : (k : Counts)
        → CountsTo (item_act fs who k item vs h ws).used (item_count fs who item vs (cells_in h) ws)
    unfolding item_act item_count
    item_counts k =
        by (ltb item 1024) refl
      where
        by : (b : Bool) → ltb item 1024 ≡ b
            → CountsTo (item_act fs who k item vs h ws).used (item_count fs who item vs (cells_in h) ws)
        by true e =
            ap (λ (a : ActResult). accesses_in a.used) (if_yes _ _ e)
            ∙ statement_counts k (statement_at fs item)
            ∙ ap (λ (i : ℕ). (accesses_in h + i) % 2 ^ 48) (sym (if_yes _ _ e))
        by false e =
            ap (λ (a : ActResult). accesses_in a.used) (if_no _ _ e)
            ∙ if_all (λ (a : ActResult). CountsTo a.used 0) (ltb item 2048) _ _
            (λ _. none_counts) (λ _. none_counts)
            ∙ ap (λ (i : ℕ). (accesses_in h + i) % 2 ^ 48) (sym (if_no _ _ e))

    pub act_counts : (r : TurnAnswer) (m : ℕ) (us : List ℕ)
        → act_result r m us ≡ turn_act fs who counts item vs h ws
        → accesses_in m
        ≡ (accesses_in h + turn_count fs who counts.items item vs (cells_in h) ws) % 2 ^ 48
    unfolding turn_act turn_count
    act_counts r m us e =
        ap (λ (a : ActResult). accesses_in a.used) e ∙ by (eqb counts.items 0) refl
      where
        by : (b : Bool) → eqb counts.items 0 ≡ b
            → accesses_in (turn_act fs who counts item vs h ws).used
            ≡ (accesses_in h + turn_count fs who counts.items item vs (cells_in h) ws) % 2 ^ 48
        by true e =
            ap (λ (a : ActResult). accesses_in a.used) (if_yes _ _ e)
            ∙ none_counts
            ∙ ap (λ (i : ℕ). (accesses_in h + i) % 2 ^ 48) (sym (if_yes _ _ e))
        by false e =
            ap (λ (a : ActResult). accesses_in a.used) (if_no _ _ e)
            ∙ item_counts (below counts)
            ∙ ap (λ (i : ℕ). (accesses_in h + i) % 2 ^ 48) (sym (if_no _ _ e))
