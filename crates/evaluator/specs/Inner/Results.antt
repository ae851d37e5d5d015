-- Evaluation on the words that a caller lends: what the public contracts cite. Assumes nothing:
-- definitions.
use Rattle.std.specs.Prelude.{◌≡◌, List, map, true, ℕ, ◌+◌, ◌%◌, ◌<◌, ◌≤◌, length, get_or}
use Rattle.language.specs.Limits.{most_cells}
use Rattle.text.specs.Frames.{frames_of}
use Rattle.program.specs.Trees.{Expr}
use Rattle.program.specs.Inner.Ordered.{Ordered, Placed}
use Rattle.machine.specs.Offsets.{owner_factor}
use Rattle.machine.specs.State.{Stored, used_cells}
use Rattle.machine.specs.Evaluation.{Here, EvalResult, Evaluation, eval, storing}
use Rattle.machine.specs.Words.{word_value, word_cell, tabulate}
use Rattle.machine.specs.Inner.Ranges.{value_in_range}
use Rattle.machine.specs.Inner.Blocks.{cell_words}
use Rattle.operations.specs.declared.Who.{Who}
use Rattle.operations.specs.Inner.Lent.{Lent, lent_variables, lent_count, lent_cells}
use Rattle.operations.specs.Inner.Heaps.{cells_in, accesses_in, heap_word, most_accesses}
use Rattle.operations.specs.Inner.Results.{Result, result}

-- who evaluates, with the variables of those words
abbrev pub here_of : Who → List ℕ → Here
here_of who vs =
    record {
      thread = who.thread;
      place = who.place.number;
      variables = map word_value vs;
      shared = who.shared;
    }

-- the cells that the first n words are
unfoldable pub cells_from : ℕ → List ℕ → List Stored
cells_from n ws = tabulate n (λ c. word_cell (get_or ws c 0)) 0

-- the words of what an evaluation gives; after the cells in use they are 0
abbrev pub result_of : EvalResult → Result
result_of r =
    record { outcome = r.outcome; used = used_cells r.cells; words = cell_words r.cells }

-- an evaluation on the cells that the first n words are
unfoldable pub on_words : Evaluation → ℕ → List ℕ → Result
on_words m n ws = result_of (m (cells_from n ws))

-- the same where the first word counts the accesses too: those there were, and then the evaluation's
abbrev pub counted_from : ℕ → EvalResult → Result
counted_from h r =
    let all = accesses_in h + length r.accesses in
    result r.outcome (heap_word (used_cells r.cells) all) (cell_words r.cells)

unfoldable pub on_heap : Evaluation → ℕ → List ℕ → Result
on_heap m h ws = counted_from h (m (cells_from (cells_in h) ws))

abbrev pub evaluated_on : Who → Expr → List ℕ → ℕ → List ℕ → Result
evaluated_on who x vs h ws = on_heap (eval (here_of who vs) x) h ws

abbrev pub stored_on : Who → Expr → Expr → List ℕ → ℕ → List ℕ → Result
stored_on who x y vs h ws = on_heap (storing (here_of who vs) x y) h ws

-- an expression evaluated on the words of the variables and of the cells, and 17
abbrev pub evaluated_by : Who → Expr → List ℕ → ℕ → List ℕ → Result
evaluated_by who x vs n ws = on_words (eval (here_of who vs) x) n ws

abbrev pub stored_by : Who → Expr → Expr → List ℕ → ℕ → List ℕ → Result
stored_by who x y vs n ws = on_words (storing (here_of who vs) x y) n ws

-- ---- what a caller has to show: the words of a state that is not refused with 14 are such

-- the words of n cells: each content is in range, and unused words are 0
pub record CellWords (n : ℕ) (ws : List ℕ) : Type 0 where
  pub all : length ws ≡ most_cells
  pub room : n ≤ most_cells
  pub each : (k : ℕ) → k < n → value_in_range (get_or ws k 0 % owner_factor) ≡ true
  pub unused : (k : ℕ) → n ≤ k → k < most_cells → get_or ws k 0 ≡ 0

-- the words of values
abbrev pub ValueWords : List ℕ → Type 0
ValueWords vs = (k : ℕ) → k < length vs → value_in_range (get_or vs k 0) ≡ true

-- the words of cells that h counts, with room for the accesses that it counts
pub record HeapWords (h : ℕ) (ws : List ℕ) : Type 0 where
  pub cells : CellWords (cells_in h) ws
  pub few : accesses_in h < most_accesses

-- the words of a state, lent: of the acting thread's variables and of the cells
pub record LentWords (who : Who) (w : List ℕ) : Type 0 where
  pub lent : Lent who w
  pub variables : ValueWords (lent_variables who w)
  pub heap : HeapWords (lent_count w) (lent_cells w)

-- children stand before their parents, and frame i is there: so the frame number falls in the
-- recursion; and an owner is a place
pub record FrameWords (frames : List ℕ) (i : ℕ) : Type 0 where
  pub ordered : Ordered (frames_of frames)
  pub placed : Placed (frames_of frames)
  pub there : i < length frames
