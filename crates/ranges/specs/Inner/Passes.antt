-- The range test by blocks, as the code passes over the words: which test each word of a block has
-- to pass. No reader has to believe it: together the passes are `in_range` (proofs/BlockLaws).
-- Assumes nothing: definitions.
use Rattle.std.specs.Prelude.{List, Bool, ℕ, ◌+◌, ◌*◌, ◌-◌, ◌&&◌, ltb, leb, eqb, get_or, nat_le}
use Rattle.std.specs.Prelude.{slice_index, take, drop}
use Rattle.std.specs.List.{list_all}
use Rattle.basics.specs.If.{when◌then◌else◌}
use Rattle.language.specs.Limits.{most_cells}
use Rattle.language.specs.declared.frame.Frame.{Frame}
use Rattle.machine.specs.Offsets.{thread_count_at, schedulers_at, scheduler_length, threads_at}
use Rattle.machine.specs.Offsets.{thread_length, events_at, cell_count_at, cells_at}
use Rattle.machine.specs.Inner.Ranges.{cell_in_range, scheduler_in_range, thread_word_in_range, all_below}

unfoldable pub is_zero : ℕ → Bool
is_zero v = eqb v 0

-- word i + j of w passes the test
unfoldable pub word_passes : (ℕ → Bool) → List ℕ → ℕ → ℕ → Bool
word_passes test w i j = test (get_or w (i + j) 0)

-- the members of the list at a place
abbrev pub list_members : List ℕ → ℕ → List ℕ
list_members w i = take (slice_index w i) (drop (i + 1) w)

-- its length is within its space, and the rest of its space is 0
unfoldable pub is_list : ℕ → List ℕ → ℕ → Bool
is_list most w i =
    nat_le (slice_index w i) most
    && list_all is_zero (take (most - slice_index w i) (drop (i + 1 + slice_index w i) w))

-- the words of scheduler k, in a file of m events and n schedulers: in range where the file has it,
-- 0 elsewhere
unfoldable pub scheduler_block : ℕ → ℕ → List ℕ → ℕ → Bool
scheduler_block m n w k =
    when ltb k n then
    all_below scheduler_length (scheduler_in_range m w (schedulers_at + scheduler_length * k)) else
    all_below scheduler_length (word_passes is_zero w (schedulers_at + scheduler_length * k))

-- the words of thread k, from 0: in range where there is one, 0 elsewhere
unfoldable pub thread_block : List Frame → ℕ → List ℕ → ℕ → Bool
thread_block fs n w k =
    when ltb k (get_or w thread_count_at 0) then
    all_below thread_length (thread_word_in_range fs n w (threads_at + thread_length * k)) else
    all_below thread_length (word_passes is_zero w (threads_at + thread_length * k))

-- the word of event e, in a file of m events: at most 1 where the file has it, 0 elsewhere
unfoldable pub event_in_range : ℕ → ℕ → ℕ → Bool
event_in_range m e v = when ltb e m then leb v 1 else eqb v 0

unfoldable pub event_passes : ℕ → List ℕ → ℕ → Bool
event_passes m w e = event_in_range m e (get_or w (events_at + e) 0)

-- the words of the cells: in range where there is one, 0 elsewhere
abbrev pub cells_pass : ℕ → List ℕ → Bool
cells_pass n w =
    all_below (get_or w cell_count_at 0) (word_passes (cell_in_range n) w cells_at)
    && all_below (most_cells - get_or w cell_count_at 0)
    (word_passes is_zero w (cells_at + get_or w cell_count_at 0))
