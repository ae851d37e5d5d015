-- The parts of the one buffer that is lent to an evaluation, the words of a whole state: the acting
-- thread's variables are read where they lie, the cells and their count are written. Assumes
-- nothing: definitions.
use Rattle.std.specs.Prelude.{ℕ, ◌+◌, ◌-◌, ◌*◌, ◌≤◌, List, take, drop, slice_index, slice_set}
use Rattle.language.specs.Limits.{most_threads, most_variables}
use Rattle.machine.specs.Offsets.{cell_count_at, threads_at, thread_length}
use Rattle.machine.specs.Offsets.{variables_field, cells_at}
use Rattle.operations.specs.declared.Who.{Who}

-- where the words of the acting thread begin
abbrev pub lent_thread : Who → ℕ
lent_thread who = threads_at + thread_length * (who.thread - 1)

-- how many variables it has
unfoldable pub variable_count : Who → List ℕ → ℕ
variable_count who w = slice_index w (lent_thread who + variables_field)

-- its variables
unfoldable pub lent_variables : Who → List ℕ → List ℕ
lent_variables who w = take (variable_count who w) (drop (lent_thread who + variables_field + 1) w)

-- how many cells are in use
unfoldable pub lent_count : List ℕ → ℕ
lent_count w = slice_index w cell_count_at

-- the words of the cells
unfoldable pub lent_cells : List ℕ → List ℕ
lent_cells w = drop cells_at w

-- f of what is lent of a state: the thread's variables, the count of cells, the cells
abbrev pub on_lent : {A : Type 0} → (List ℕ → ℕ → List ℕ → A) → Who → List ℕ → A
on_lent f who w = f (lent_variables who w) (lent_count w) (lent_cells w)

-- all that an evaluation does not write
unfoldable pub lent_rest : List ℕ → List ℕ
lent_rest w = slice_set (take cells_at w) cell_count_at 0

-- what a caller has to show: a thread that there can be, and no more variables than its space has
pub record Lent (who : Who) (w : List ℕ) : Type 0 where
  pub first : 1 ≤ who.thread
  pub last : who.thread ≤ most_threads
  pub few : variable_count who w ≤ most_variables
