-- The range of each lent word, as a test: it computes what Validity says of a state in shape.
-- Assumes nothing: definitions. '14 a lent buffer of the wrong length, or a state with a word out
-- of range (a place, frame or party that the file lacks, a pile frame that is no statement, a
-- thread over 64, a cell over 255, a list or pile longer than its space ..)'
use Rattle.std.specs.Prelude.{List, Bool, true, ◌&&◌, ℕ, zero, suc, ◌+◌, ◌-◌, ◌*◌, ◌/◌, ◌%◌, ltb, leb, eqb, length, get_or}
use Rattle.basics.specs.If.{when◌then◌else◌}
use Rattle.language.specs.Places.{has_place}
use Rattle.language.specs.declared.frame.Frame.{Frame}
use Rattle.language.specs.Limits.{most_variables, most_threads, most_cells, most_items}
use Rattle.program.specs.Trees.{frame_at}
use Rattle.machine.specs.Offsets.{state_length, thread_count_at, cell_count_at, schedulers_at}
use Rattle.machine.specs.Offsets.{scheduler_length, list_length, threads_at, thread_length}
use Rattle.machine.specs.Offsets.{place_field, starter_field, lives_field, items_field}
use Rattle.machine.specs.Offsets.{variables_field, events_at, cells_at, back_from, drop_word}
use Rattle.machine.specs.Offsets.{waiting_factor, awaiting_from, truth_from, cell_from}
use Rattle.machine.specs.Offsets.{owner_factor}
use Rattle.machine.specs.Shapes.{is_statement, owner_in_range}

-- ---- single words, in a file of those frames and n schedulers

-- 'Threads are 1 to 64'
unfoldable pub thread_in_range : ℕ → Bool
thread_in_range t = leb 1 t && leb t most_threads

-- a number of 32 bits, a truth, or a cell, 0 to 255
unfoldable pub value_in_range : ℕ → Bool
value_in_range w = when ltb w truth_from then true else when ltb w cell_from then leb w (truth_from + 1) else leb w (cell_from + 255)

-- a statement of the file, a back to a place of the file, or a drop
unfoldable pub item_in_range : List Frame → ℕ → ℕ → Bool
item_in_range fs n w =
    when ltb w back_from then is_statement (frame_at fs w).kind else
    when ltb w drop_word then has_place n (w - back_from) else
    eqb w drop_word

-- a thread, a thread that waits for another, a thread that awaits one of m events
unfoldable pub entry_in_range : ℕ → ℕ → Bool
entry_in_range m w =
    when ltb w waiting_factor then thread_in_range w else
    when ltb w awaiting_from
    then thread_in_range (w % waiting_factor) && thread_in_range (w / waiting_factor) else
    thread_in_range (w % waiting_factor) && ltb ((w - awaiting_from) / waiting_factor) m

unfoldable pub cell_in_range : ℕ → ℕ → Bool
cell_in_range n w = owner_in_range n (w / owner_factor) && value_in_range (w % owner_factor)

-- ---- the words of a list, a scheduler, a thread

-- word j of the space of a list at i, which holds at most `most` members that pass the test: 'a
-- list or pile longer than its space'; after its members, 0
unfoldable pub list_in_range : (ℕ → Bool) → ℕ → List ℕ → ℕ → ℕ → Bool
list_in_range test most w i zero = leb (get_or w i 0) most
list_in_range test most w i (suc j) =
    when ltb j (get_or w i 0) then test (get_or w (i + suc j) 0) else eqb (get_or w (i + suc j) 0) 0

-- word j of the scheduler whose words begin at i, in a file of m events
unfoldable pub scheduler_in_range : ℕ → List ℕ → ℕ → ℕ → Bool
scheduler_in_range m w i j =
    when ltb j list_length then list_in_range thread_in_range most_threads w i j else
    list_in_range (entry_in_range m) most_threads w (i + list_length) (j - list_length)

-- word j of the thread whose words begin at i: its place, its starter (0: none), whether it lives,
-- its continuation, its variables
unfoldable pub thread_word_in_range : List Frame → ℕ → List ℕ → ℕ → ℕ → Bool
thread_word_in_range fs n w i j =
    when eqb j place_field then has_place n (get_or w i 0) else
    when eqb j starter_field then leb (get_or w (i + starter_field) 0) most_threads else
    when eqb j lives_field then leb (get_or w (i + lives_field) 0) 1 else
    when ltb j variables_field then list_in_range (item_in_range fs n) most_items w (i + items_field) (j - items_field) else
    list_in_range value_in_range most_variables w (i + variables_field) (j - variables_field)

-- ---- the words of a state

-- word i: of a scheduler, a thread, an event or a cell that there is, or 0
unfoldable pub word_in_range : List Frame → ℕ → List ℕ → ℕ → Bool
word_in_range fs n w i =
    when eqb i thread_count_at then leb (get_or w thread_count_at 0) most_threads else
    when eqb i cell_count_at then leb (get_or w cell_count_at 0) most_cells else
    when ltb i threads_at then
    (when ltb ((i - schedulers_at) / scheduler_length) n
    then scheduler_in_range (frame_at fs 0).c w (schedulers_at + scheduler_length * ((i - schedulers_at) / scheduler_length)) ((i - schedulers_at) % scheduler_length)
    else eqb (get_or w i 0) 0) else
    when ltb i events_at then
    (when ltb ((i - threads_at) / thread_length) (get_or w thread_count_at 0)
    then thread_word_in_range fs n w (threads_at + thread_length * ((i - threads_at) / thread_length)) ((i - threads_at) % thread_length)
    else eqb (get_or w i 0) 0) else
    when ltb i cells_at then
    (when ltb (i - events_at) (frame_at fs 0).c then leb (get_or w i 0) 1 else eqb (get_or w i 0) 0) else
    when ltb (i - cells_at) (get_or w cell_count_at 0) then cell_in_range n (get_or w i 0) else eqb (get_or w i 0) 0

-- the test passes at every number below n
unfoldable pub all_below : ℕ → (ℕ → Bool) → Bool
all_below zero test = true
all_below (suc n) test = test n && all_below n test

-- the words are as many as they have to be, and none is out of range
unfoldable pub in_range : List Frame → ℕ → List ℕ → Bool
in_range fs n w = eqb (length w) state_length && all_below state_length (word_in_range fs n w)
