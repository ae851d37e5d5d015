-- A state as the 4,834 words that a caller lends. A word of unused space is 0.
--   0, 1      how many threads and cells there are
--   2 ..      8 schedulers of 130 words: the active list, 1 + 64, then the next list, 1 + 64
--   1042 ..   64 threads of 55 words: place, starter, 1 while it lives, the continuation from the
-- bottom, 1 + 25, then the variables, 1 + 25
--   4562 ..   16 events, 1 where it is present
--   4578 ..   256 cells, a word each
-- A list stands as its length, then its members.
use Rattle.std.specs.Prelude.{◌∷◌}
use Rattle.basics.specs.Prelude.{List, [], map, reverse, Bool, true, false, not, ℕ, zero, suc}
use Rattle.std.specs.Prelude.{◌+◌, ◌-◌, ◌*◌, ◌/◌, ◌%◌}
use Rattle.basics.specs.Prelude.{ltb, eqb, length, get_or, when◌then◌else◌}
use Rattle.language.specs.{Places.home, declared.frame.Frame.Frame}
use Rattle.program.specs.Trees.{root_s, statement_at, frame_at}
use Rattle.machine.specs.Offsets.{state_length, thread_count_at, cell_count_at, schedulers_at}
use Rattle.machine.specs.Offsets.{scheduler_length, list_length, next_list_at, threads_at}
use Rattle.machine.specs.Offsets.{thread_length, place_field, starter_field, lives_field}
use Rattle.machine.specs.Offsets.{items_field, variables_field, events_at, cells_at, back_from}
use Rattle.machine.specs.Offsets.{drop_word, waiting_factor, awaiting_from, truth_from, cell_from}
use Rattle.machine.specs.Offsets.{owner_factor}
use Rattle.machine.specs.State.{State, Stored, Item, run, back, drop, Thread, Entry, plain}
use Rattle.machine.specs.State.{waiting, awaiting, Scheduler, cell_at, is_present, used_cells}
use Rattle.machine.specs.State.{nth, scheduler_at}
use Rattle.machine.specs.Values.{Value, Number, Truth, Cell}

abbrev pub bit : Bool → ℕ
bit b = elim b [ true ↦ 1 | false ↦ 0 ]

-- ---- single words, there and back

-- a number is itself, a truth 2^32 and 0 or 1, a cell 2^33 and its number
unfoldable pub value_word : Value → ℕ
value_word v = elim v [ Number n ↦ n | Truth b ↦ truth_from + bit b | Cell c ↦ cell_from + c ]

unfoldable pub word_value : ℕ → Value
word_value w =
    when ltb w truth_from then Number w else
    when ltb w cell_from then Truth (eqb w (truth_from + 1)) else Cell (w - cell_from)

-- a statement is its frame, a back 1024 and its place, a drop 2048
unfoldable pub item_word : Item → ℕ
item_word i = elim i [ run x ↦ root_s x | back q ↦ back_from + q | drop ↦ drop_word ]

unfoldable pub word_item : List Frame → ℕ → Item
word_item fs w =
    let x = run (statement_at fs w) in
    when ltb w back_from then x else when ltb w drop_word then back (w - back_from) else drop

-- a thread is itself; one that waits for thread u has 128 u added, one that awaits event e 16,384
-- and 128 e
unfoldable pub entry_word : Entry → ℕ
entry_word x =
    elim x [
      | plain t ↦ t
      | waiting t u ↦ waiting_factor * u + t
      | awaiting t e ↦ awaiting_from + waiting_factor * e + t
    ]

unfoldable pub word_entry : ℕ → Entry
word_entry w =
    when ltb w waiting_factor then plain w else
    when ltb w awaiting_from then waiting (w % waiting_factor) (w / waiting_factor) else
    awaiting (w % waiting_factor) ((w - awaiting_from) / waiting_factor)

-- the owner 2^34 times, and the content
unfoldable pub cell_word : Stored → ℕ
cell_word x = x.owner * owner_factor + value_word x.content

unfoldable pub word_cell : ℕ → Stored
word_cell w = record { owner = w / owner_factor; content = word_value (w % owner_factor) }

-- ---- the words of a state

-- word j of a list's space: its length, then its words
abbrev pub list_word : List ℕ → ℕ → ℕ
list_word ws zero = length ws
list_word ws (suc j) = get_or ws j 0

unfoldable pub scheduler_word : Scheduler → ℕ → ℕ
scheduler_word x j =
    when ltb j list_length then list_word x.active j else
    list_word (map entry_word x.next) (j - list_length)

unfoldable pub thread_word : Thread → ℕ → ℕ
thread_word x j =
    when eqb j place_field then x.place else
    when eqb j starter_field then x.starter else
    when eqb j lives_field then bit (not x.ended) else
    when ltb j variables_field
    then list_word (reverse (map item_word x.continuation)) (j - items_field) else
    list_word (map value_word x.variables) (j - variables_field)

unfoldable pub word_of : State → ℕ → ℕ
word_of s i =
    when eqb i thread_count_at then length s.threads else
    when eqb i cell_count_at then used_cells s.cells else
    when ltb i threads_at
    then (let j = i - schedulers_at in
    scheduler_word (scheduler_at s (home + j / scheduler_length)) (j % scheduler_length)) else
    when ltb i events_at
    then (let j = i - threads_at in
    thread_word (nth s.threads (suc (j / thread_length))) (j % thread_length)) else
    when ltb i cells_at then bit (is_present s (i - events_at)) else
    cell_word (cell_at s.cells (i - cells_at))

-- f i, f (i + 1), .. , n of them
unfoldable pub tabulate : {A : Type 0} → ℕ → (ℕ → A) → ℕ → List A
tabulate zero f i = []
tabulate (suc n) f i = f i ∷ tabulate n f (suc i)

unfoldable pub pack : State → List ℕ
pack s = tabulate state_length (word_of s) 0

-- ---- the state of the words

-- a list's words at i, after its length
abbrev pub words_at : List ℕ → ℕ → List ℕ
words_at w i = tabulate (get_or w i 0) (λ j. get_or w j 0) (suc i)

unfoldable pub thread_from : List Frame → List ℕ → ℕ → Thread
thread_from fs w k =
    let i = threads_at + thread_length * k in
    record {
      place = get_or w i 0;
      starter = get_or w (i + starter_field) 0;
      ended = eqb (get_or w (i + lives_field) 0) 0;
      continuation = map (word_item fs) (reverse (words_at w (i + items_field)));
      variables = map word_value (words_at w (i + variables_field));
    }

unfoldable pub scheduler_from : List ℕ → ℕ → Scheduler
scheduler_from w k =
    let entries = words_at w (next_list_at + scheduler_length * k) in
    record { active = words_at w (schedulers_at + scheduler_length * k); next = map word_entry entries }

-- in a file of those frames and n schedulers
unfoldable pub unpack : List Frame → ℕ → List ℕ → State
unpack fs n w =
    record {
      threads = tabulate (get_or w thread_count_at 0) (thread_from fs w) 0;
      schedulers = tabulate n (scheduler_from w) 0;
      cells = tabulate (get_or w cell_count_at 0) (λ c. word_cell (get_or w (cells_at + c) 0)) 0;
      present = tabulate (frame_at fs 0).c (λ e. eqb (get_or w (events_at + e) 0) 1) 0;
    }
