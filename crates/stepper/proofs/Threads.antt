-- A whole turn of a thread that is there: its words committed are the step of the rules. Assumes
-- nothing.
use Prim.Native.Nat.{ℕ, suc, ◌+◌, ◌-◌, ◌<◌, ◌≤◌}
use mathlib.Core.Path.{◌≡◌, refl, sym, ap, ap₂, ◌∙◌, subst}
use mathlib.Core.List.{List, [], ◌∷◌}
use mathlib.Core.Bool.{true}
use native.Mathlib.Omega.{arith}
use lib.ListN.{length}
use borrow.Author.Tests.{lt-ltb, le-ltb, ne_eqb}
use Rattle.basics.specs.Members.{All, more}
use Rattle.basics.proofs.Ifs.{if_yes, if_no}
use Rattle.language.specs.declared.frame.Frame.{Frame}
use Rattle.program.specs.Trees.{Stmt, root_s, statement_at}
use Rattle.program.specs.Programs.{Program}
use Rattle.machine.specs.State.{State, Thread, Item, run, back, drop, thread_at, used_cells}
use Rattle.machine.specs.Statements.{ends, goes_back}
use Rattle.machine.specs.Inner.Parts.{step_items, step_thread}
use Rattle.machine.specs.Steps.{step_thread_within}
use Rattle.machine.specs.Words.{item_word}
use Rattle.machine.specs.Inner.Blocks.{cell_words}
use Rattle.stepper.specs.Inner.Files.{as_committed}
use Rattle.machine.specs.Shapes.{ItemFits, run_fits, back_fits, drop_fits, ThreadFits}
use Rattle.machine.proofs.KeptCells.{CellsFit}
use Rattle.machine.proofs.KeptShape.{parts_of}
use Rattle.operations.specs.declared.Who.{Who}
use Rattle.states.specs.declared.thread.ThreadWords.{ThreadWords}
use Rattle.states.specs.Inner.Threads.{thread_words_of}
use Rattle.states.specs.Inner.Stacks.{ended}
use Rattle.states.proofs.StackLaws.{with_continuation, pop_item_is, top_item_is}
use Rattle.turns.specs.Inner.Acts.{TurnOutcome, statement_in, goes_in, drops_in, turn_outcome}
use Rattle.turns.specs.Inner.Acts.{item_in, turn_in}
use Rattle.stepper.proofs.Grows.{grown_same}
use Rattle.stepper.proofs.Transitions.{Acts, commit_on, leaves_is}
use Rattle.stepper.proofs.Moves.{drops_is, goes_is}
use Rattle.stepper.proofs.Arguments.{FewArguments, few_arguments_at}
use Rattle.stepper.proofs.Items.{IsWho, statement_is}
use Rattle.stepper.proofs.Uses.{goes_few, drops_few, statement_few}

module _ {fs : List Frame} {P : Program} {n : ℕ} {w : List ℕ} {s : State} {c k : ℕ} (A : Acts fs P n w s c k) (who : Who) (W : IsWho P k (thread_at s (suc k)) who) where
  abbrev x : Thread
  x = thread_at s (suc k)

  X : ThreadFits fs n (thread_at s (suc k))
  X = A.shape.threads k A.there

  -- the thread with the items that are left
  abbrev rest : List Item → Thread
  rest is = with_continuation is x

  rest_fits : (is : List Item) → All (ItemFits fs n) is → length is ≤ 25
      → ThreadFits fs n (with_continuation is (thread_at s (suc k)))
  rest_fits is f l =
      record { place = X.place; starter = X.starter; items_room = l; variables_room = X.variables_room; items = f; values = X.values }

  who_rest : (is : List Item) → IsWho P k (with_continuation is (thread_at s (suc k))) who
  who_rest is = record { thread = W.thread; place = W.place; shared = W.shared }

  cells : CellsFit n s.cells
  cells = record { room = A.shape.cells_room; each = A.shape.cells }

  abbrev ws : List ℕ
  ws = cell_words s.cells

  abbrev used : ℕ
  used = used_cells s.cells

  -- ---- what the words come to, by the item that is on top
  in_run : (st : Stmt) (is : List Item) → root_s st < 1024 → statement_at fs (root_s st) ≡ st
      → item_in fs who (thread_words_of (rest is)) used ws (root_s st)
      ≡ statement_in who (thread_words_of (rest is)) used ws st
  unfolding item_in
  in_run st is l e = if_yes _ _ (lt-ltb (root_s st) 1024 l) ∙ ap (statement_in who (thread_words_of (rest is)) used ws) e

  in_back : (q : ℕ) (is : List Item) → q < 1024
      → item_in fs who (thread_words_of (rest is)) used ws (1024 + q)
      ≡ turn_outcome (goes_in x.place (thread_words_of (rest is)) used q) ws
  unfolding item_in
  in_back q is l =
      let a : 1024 ≤ 1024 + q = omega arith in
      let b : 1024 + q < 2048 = omega arith in
      let d : 1024 + q - 1024 ≡ q = omega arith in
      if_no _ _ (le-ltb (1024 + q) 1024 a) ∙ if_yes _ _ (lt-ltb (1024 + q) 2048 b)
      ∙ ap (λ (j : ℕ). turn_outcome (goes_in x.place (thread_words_of (rest is)) used j) ws) d

  in_drop : (is : List Item)
      → item_in fs who (thread_words_of (rest is)) used ws 2048
      ≡ turn_outcome (drops_in (thread_words_of (rest is)) used) ws
  unfolding item_in
  in_drop is = if_no _ _ (le-ltb 2048 1024 (omega arith)) ∙ if_no _ _ (le-ltb 2048 2048 (omega arith))

  in_items : (i : Item) (is : List Item) → length is < 25
      → turn_in fs who (thread_words_of (rest (i ∷ is))) used ws
      ≡ item_in fs who (thread_words_of (rest is)) used ws (item_word i)
  unfolding turn_in
  in_items i is h =
      if_no _ _ (ne_eqb (suc (length is)) 0 (λ z. omega arith))
      ∙ ap₂ (λ (th : ThreadWords) (v : ℕ). item_in fs who th used ws v)
      (pop_item_is (rest is) i (omega arith)) (top_item_is (rest is) i (omega arith))

  -- ---- committed, it is the step
  item_is : (i : Item) (is : List Item) → ItemFits fs n i → All (ItemFits fs n) is → length is < 25
      → commit_on A (item_in fs who (thread_words_of (rest is)) used ws (item_word i))
      ≡ as_committed w (step_items P s c (suc k) (i ∷ is))
  unfolding item_word goes_back
  item_is (run st) is (run_fits l q e) f h =
      ap (commit_on A) (in_run st is l e)
      ∙ statement_is A (rest is) (rest_fits is f (omega arith)) who (who_rest is)
      s.cells [] cells (grown_same s.cells) st (parts_of fs P n A.file (run_fits l q e))
      (subst FewArguments e (few_arguments_at fs (root_s st)))
  item_is (back q) is (back_fits l p) f h =
      ap (commit_on A) (in_back q is l)
      ∙ goes_is A (rest is) (rest_fits is f (omega arith)) s.cells [] (grown_same s.cells)
      A.shape.cells_room q is p (omega arith)
  item_is drop is drop_fits f h =
      ap (commit_on A) (in_drop is) ∙ drops_is A (rest is) (rest_fits is f (omega arith))
      s.cells [] (grown_same s.cells) A.shape.cells_room

  -- by the continuation: a thread without an item ends
  turn_from : (is : List Item) → All (ItemFits fs n) is → length is ≤ 25
      → commit_on A (turn_in fs who (thread_words_of (rest is)) used ws)
      ≡ as_committed w (step_items P s c (suc k) is)
  unfolding turn_in ends ended
  turn_from [] f h =
      ap (commit_on A) (if_yes _ _ refl)
      ∙ leaves_is A (rest []) s.cells [] (record { place = x.place; continuation = []; variables = x.variables; starter = x.starter; ended = true })
  turn_from (i ∷ is) (more p f) h =
      ap (commit_on A) (in_items i is (omega arith)) ∙ item_is i is p f (omega arith)

  pub turn_is : commit_on A (turn_in fs who (thread_words_of x) used ws)
      ≡ as_committed w (step_thread P s c (suc k))
  unfolding step_thread_within
  turn_is = turn_from x.continuation X.items X.items_room

  -- ---- with at most 256 cells in use
  abbrev Few : TurnOutcome → Type 0
  Few r = r.acted.used ≤ 256

  item_few : (i : Item) (is : List Item) → ItemFits fs n i → All (ItemFits fs n) is → length is < 25
      → Few (item_in fs who (thread_words_of (rest is)) used ws (item_word i))
  unfolding item_word
  item_few (run st) is (run_fits l q e) f h =
      subst Few (sym (in_run st is l e))
      (statement_few A (rest is) (rest_fits is f (omega arith)) who (who_rest is) s.cells cells st (parts_of fs P n A.file (run_fits l q e)))
  item_few (back q) is (back_fits l p) f h = subst Few (sym (in_back q is l)) (goes_few used A.shape.cells_room (thread_words_of (rest is)) x.place q)
  item_few drop is drop_fits f h =
      subst Few (sym (in_drop is)) (drops_few used A.shape.cells_room (thread_words_of (rest is)))

  few_from : (is : List Item) → All (ItemFits fs n) is → length is ≤ 25
      → Few (turn_in fs who (thread_words_of (rest is)) used ws)
  unfolding turn_in
  few_from [] f h = subst Few (sym (if_yes _ _ refl)) A.shape.cells_room
  few_from (i ∷ is) (more p f) h =
      subst Few (sym (in_items i is (omega arith))) (item_few i is p f (omega arith))

  pub turn_few : (turn_in fs who (thread_words_of x) used ws).acted.used ≤ 256
  turn_few = few_from x.continuation X.items X.items_room
