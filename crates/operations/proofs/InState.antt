-- How many cells are in use and the words of the cells where they lie in a state's words: what a
-- read finds, and what a write leaves of each part. Assumes nothing.
use Rattle.std.proofs.Common.{◌≡◌, ℕ, ◌+◌, List, length, get_or, take, set, sym, ap, ◌∙◌, arith, length-set, get_or-drop, get_or-set_other, get_or-set_same, drop-set-lt, set-set}
use lib.Seq.{take-set-le, take-set-lt, drop-set-add}
use Rattle.machine.specs.Offsets.{state_length, cell_count_at, cells_at}
use Rattle.machine.specs.declared.value.Outcome.{Outcome}
use Rattle.operations.specs.Inner.Lent.{lent_count, lent_cells, lent_rest}
use Rattle.operations.specs.Inner.Results.{result, result_in}

module _ (w : List ℕ) where
  -- ---- a read
  pub cell_at : (i : ℕ) → get_or w (cells_at + i) 0 ≡ get_or (lent_cells w) i 0
  unfolding lent_cells
  cell_at i = sym (get_or-drop cells_at w i 0)

  -- ---- another word of a cell
  count_put : (i x : ℕ) → lent_count (set w (cells_at + i) x) ≡ lent_count w
  unfolding lent_count
  count_put i x = get_or-set_other w (cells_at + i) cell_count_at x 0 (λ e. omega arith)

  cells_put : (i x : ℕ) → lent_cells (set w (cells_at + i) x) ≡ set (lent_cells w) i x
  unfolding lent_cells
  cells_put i x = drop-set-add cells_at w i x

  pub rest_put : (i x : ℕ) → lent_rest (set w (cells_at + i) x) ≡ lent_rest w
  unfolding lent_rest
  rest_put i x =
      ap (λ (l : List ℕ). set l cell_count_at 0) (take-set-le cells_at w (cells_at + i) x (omega arith))

  pub put_in : (o : Outcome) (i x : ℕ)
      → result_in o (set w (cells_at + i) x) ≡ result o (lent_count w) (set (lent_cells w) i x)
  put_in o i x =
      ap (λ (n : ℕ). result o n (lent_cells (set w (cells_at + i) x))) (count_put i x)
      ∙ ap (result o (lent_count w)) (cells_put i x)

  -- ---- another count
  count_set : (n : ℕ) → length w ≡ state_length → lent_count (set w cell_count_at n) ≡ n
  unfolding lent_count
  count_set n l = get_or-set_same w cell_count_at n 0 (omega arith)

  pub cells_kept : (n : ℕ) → lent_cells (set w cell_count_at n) ≡ lent_cells w
  unfolding lent_cells
  cells_kept n = drop-set-lt cells_at w cell_count_at n (omega arith)

  pub rest_kept : (n : ℕ) → lent_rest (set w cell_count_at n) ≡ lent_rest w
  unfolding lent_rest
  rest_kept n =
      ap (λ (l : List ℕ). set l cell_count_at 0) (take-set-lt cells_at w cell_count_at n (omega arith))
      ∙ set-set (take cells_at w) cell_count_at n 0

  pub counted_in : (o : Outcome) (n : ℕ) → length w ≡ state_length
      → result_in o (set w cell_count_at n) ≡ result o n (lent_cells w)
  counted_in o n l =
      ap (λ (m : ℕ). result o m (lent_cells (set w cell_count_at n))) (count_set n l)
      ∙ ap (result o n) (cells_kept n)

-- ---- one more cell: its word, then the count
module _ (w : List ℕ) (i x n : ℕ) where
  put : List ℕ
  put = set w (cells_at + i) x

  pub new_in : (o : Outcome) → length w ≡ state_length
      → result_in o (set (set w (cells_at + i) x) cell_count_at n) ≡ result o n (set (lent_cells w) i x)
  unfolding put
  new_in o l =
      ap (λ (m : ℕ). result o m (lent_cells (set put cell_count_at n)))
      (count_set put n (length-set w (cells_at + i) x ∙ l))
      ∙ ap (result o n) (cells_kept put n ∙ cells_put w i x)

  pub rest_new : lent_rest (set (set w (cells_at + i) x) cell_count_at n) ≡ lent_rest w
  unfolding put
  rest_new = rest_kept put n ∙ rest_put w i x
