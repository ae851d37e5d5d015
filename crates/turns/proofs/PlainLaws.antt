-- What an evaluation leaves, without the accesses that are counted with its cells: the evaluation
-- on the cells alone; and the accesses counted. Assumes nothing.
use mathlib.Core.Path.{◌≡◌, ap, subst, sym}
use mathlib.Core.List.{List}
use Prim.Native.Nat.{ℕ, ◌+◌, ◌%◌, ◌^◌, ◌≤◌}
use native.Mathlib.Omega.{arith}
use lib.ListN.{length}
use Rattle.program.specs.Trees.{Expr}
use Rattle.machine.specs.State.{Stored, used_cells}
use Rattle.machine.specs.Evaluation.{EvalResult, Evaluation, eval, storing}
use Rattle.machine.specs.Inner.Blocks.{cell_words}
use Rattle.machine.proofs.FewAccesses.{cells_few, storing_cells_few}
use Rattle.operations.specs.declared.Who.{Who}
use Rattle.operations.specs.Inner.Heaps.{cells_in, accesses_in}
use Rattle.operations.specs.Inner.Results.{Result, result}
use Rattle.operations.proofs.HeapLaws.{heap_cells, heap_accesses}
use Rattle.evaluator.specs.Inner.Results.{here_of, on_words, on_heap, evaluated_by, stored_by}
use Rattle.evaluator.specs.Inner.Results.{evaluated_on, stored_on, cells_from}
use Rattle.evaluator.proofs.Holding.{from_length}
use Rattle.turns.specs.Inner.TurnCounts.{eval_count, store_count}

-- a result with the count of its cells alone
abbrev pub plain : Result → Result
plain r = result r.outcome (cells_in r.used) r.words

module _ (h : ℕ) (ws : List ℕ) (room : cells_in h ≤ 256) where
  abbrev cs : List Stored
  cs = cells_from (cells_in h) ws

  room_from : used_cells (cells_from (cells_in h) ws) ≤ 256
  room_from = subst (λ (n : ℕ). n ≤ 256) (sym (from_length (cells_in h) ws)) room

  -- an evaluation that leaves no more cells than there may be
  module _ (m : Evaluation) (few : used_cells (m (cells_from (cells_in h) ws)).cells ≤ 256) where
    abbrev r : EvalResult
    r = m (cells_from (cells_in h) ws)

    plain_on : plain (on_heap m h ws) ≡ on_words m (cells_in h) ws
    unfolding on_heap on_words
    plain_on =
        ap (λ (n : ℕ). result r.outcome n (cell_words r.cells))
        (heap_cells (used_cells r.cells) _ (omega arith))

    counted_on : accesses_in (on_heap m h ws).used
        ≡ (accesses_in h + length (m (cells_from (cells_in h) ws)).accesses) % 2 ^ 48
    unfolding on_heap
    counted_on = heap_accesses (used_cells r.cells) _ (omega arith)

    room_on : cells_in (on_heap m h ws).used ≤ 256
    unfolding on_heap
    room_on = (let e = heap_cells (used_cells r.cells) (accesses_in h + length r.accesses) (omega arith) in omega arith)

  module _ (who : Who) (vs : List ℕ) where
    module _ (x : Expr) where
      few : used_cells (eval (here_of who vs) x (cells_from (cells_in h) ws)).cells ≤ 256
      few = cells_few (here_of who vs) x cs room_from

      pub plain_eval : plain (evaluated_on who x vs h ws) ≡ evaluated_by who x vs (cells_in h) ws
      plain_eval = plain_on (eval (here_of who vs) x) few

      pub eval_counts : accesses_in (evaluated_on who x vs h ws).used
          ≡ (accesses_in h + eval_count who x vs (cells_in h) ws) % 2 ^ 48
      eval_counts = counted_on (eval (here_of who vs) x) few

      pub eval_room : cells_in (evaluated_on who x vs h ws).used ≤ 256
      eval_room = room_on (eval (here_of who vs) x) few

    module _ (x y : Expr) where
      few_stored : used_cells (storing (here_of who vs) x y (cells_from (cells_in h) ws)).cells ≤ 256
      few_stored = storing_cells_few (here_of who vs) x y cs room_from

      pub plain_store : plain (stored_on who x y vs h ws) ≡ stored_by who x y vs (cells_in h) ws
      plain_store = plain_on (storing (here_of who vs) x y) few_stored

      pub store_counts : accesses_in (stored_on who x y vs h ws).used
          ≡ (accesses_in h + store_count who x y vs (cells_in h) ws) % 2 ^ 48
      store_counts = counted_on (storing (here_of who vs) x y) few_stored
