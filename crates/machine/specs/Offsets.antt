-- Where each part of a state lies in the words that a caller lends, and how parts are told apart in
-- a word: each number of the layout is named here once.
use Rattle.std.specs.Prelude.{◌*◌, ◌^◌}
use Rattle.basics.specs.Prelude.{ℕ}

-- all words; the count of threads and of cells in use
abbrev pub state_length : ℕ
state_length = 4834

abbrev pub thread_count_at : ℕ
thread_count_at = 0

abbrev pub cell_count_at : ℕ
cell_count_at = 1

-- 8 schedulers, each an active list and then a next list; a list is its length, then 64 words
abbrev pub schedulers_at : ℕ
schedulers_at = 2

abbrev pub scheduler_length : ℕ
scheduler_length = 130

abbrev pub list_length : ℕ
list_length = 65

abbrev pub next_list_at : ℕ
next_list_at = 67

-- 64 threads: the place, the starter, 1 while it lives; the continuation from the bottom, 1 + 25
-- words; the variables, 1 + 25
abbrev pub threads_at : ℕ
threads_at = 1042

abbrev pub thread_length : ℕ
thread_length = 55

abbrev pub place_field : ℕ
place_field = 0

abbrev pub starter_field : ℕ
starter_field = 1

abbrev pub lives_field : ℕ
lives_field = 2

abbrev pub items_field : ℕ
items_field = 3

abbrev pub variables_field : ℕ
variables_field = 29

-- 16 events, a word each: 1 while it is present; 256 cells, a word each
abbrev pub events_at : ℕ
events_at = 4562

abbrev pub cells_at : ℕ
cells_at = 4578

-- an item: a statement is its frame's number; from here on a back, by its place; a drop
abbrev pub back_from : ℕ
back_from = 1024

abbrev pub drop_word : ℕ
drop_word = 2048

-- an entry of a next list: a thread; one that waits for thread u has this many times u added; from
-- here on one that awaits event e, with as many times e added
abbrev pub waiting_factor : ℕ
waiting_factor = 128

abbrev pub awaiting_from : ℕ
awaiting_from = 16384

-- a value: a number is itself; from here on a truth; from here on a cell
abbrev pub truth_from : ℕ
truth_from = 2 ^ 32

abbrev pub cell_from : ℕ
cell_from = 2 * 2 ^ 32

-- a cell: this many times the owner, and the content; a private cell's owner is this and its thread
abbrev pub owner_factor : ℕ
owner_factor = 2 ^ 34

abbrev pub thread_owner_from : ℕ
thread_owner_from = 16
