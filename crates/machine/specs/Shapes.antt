-- A state in shape: each list within its space, each number of it in its range. 14 is answered for
-- words that are those of no such state: 'a state with a word out of range (a place, frame or party
-- that the file lacks, a pile frame that is no statement, a thread over 64, a cell over 255, a list
-- or pile longer than its space; ..)'.
use Rattle.std.specs.Prelude.{◌&&◌, ◌||◌, ◌≤◌, ◌<◌}
use Rattle.basics.specs.Prelude.{List, Bool, true, false, ℕ, leb, length}
use Rattle.std.specs.Prelude.{◌≡◌}
use Rattle.basics.specs.Prelude.{get_or, All}
use Rattle.language.specs.Places.{has_place, has_scheduler}
use Rattle.language.specs.{Kinds.class_of, declared.kind.Kind.Kind, declared.frame.Frame.Frame}
use Rattle.language.specs.declared.kind.Class.TheVariants.{Statement, Expression, Neither}
use Rattle.language.specs.Limits.{most_schedulers, most_variables, most_threads, most_cells, most_items}
use Rattle.language.specs.Limits.{most_events}
use Rattle.program.specs.Trees.{Stmt, statement_at, frame_at, root_s}
use Rattle.machine.specs.{Offsets.back_from, Offsets.truth_from, State.State, State.Stored}
use Rattle.machine.specs.{State.Item, State.run, State.back, State.drop, State.Thread}
use Rattle.machine.specs.{State.Entry, State.plain, State.waiting, State.awaiting}
use Rattle.machine.specs.{State.Scheduler}
use Rattle.machine.specs.{State.no_thread, State.no_scheduler, State.no_cell, State.thread_owner}
use Rattle.machine.specs.{Words.pack, Values.Value, Values.Number, Values.Truth, Values.Cell}

-- ---- single parts, in a file of those frames and n schedulers

abbrev pub is_statement : Kind → Bool
is_statement k = elim (class_of k) [ Statement ↦ true | Expression ↦ false | Neither ↦ false ]

-- a scheduler of the file, or a thread's own
unfoldable pub owner_in_range : ℕ → ℕ → Bool
owner_in_range n o = has_scheduler n o || leb (thread_owner 1) o && leb o (thread_owner most_threads)

-- a number of 32 bits, a truth, or a cell, 0 to 255
pub data ValueFits : Value → Type 0 where
  number : {n : ℕ} → n < truth_from → ValueFits (Number n)
  truth : {b : Bool} → ValueFits (Truth b)
  cell : {c : ℕ} → c < most_cells → ValueFits (Cell c)

-- a statement of the file, the one at its frame; a back to a place of the file; a drop
pub data ItemFits (fs : List Frame) (n : ℕ) : Item → Type 0 where
  run_fits : {x : Stmt} → root_s x < back_from → is_statement (frame_at fs (root_s x)).kind ≡ true
      → statement_at fs (root_s x) ≡ x → ItemFits fs n (run x)
  back_fits : {q : ℕ} → q < back_from → has_place n q ≡ true → ItemFits fs n (back q)
  drop_fits : ItemFits fs n drop

-- 'Threads are 1 to 64'
abbrev pub IsThread : ℕ → Type 0
IsThread t = (1 ≤ t) × (t ≤ most_threads)

-- an entry, in a file of m events
pub data EntryFits (m : ℕ) : Entry → Type 0 where
  plain_fits : {t : ℕ} → IsThread t → EntryFits m (plain t)
  waiting_fits : {t u : ℕ} → IsThread t → IsThread u → EntryFits m (waiting t u)
  awaiting_fits : {t e : ℕ} → IsThread t → e < m → EntryFits m (awaiting t e)

-- ---- threads, schedulers, cells
pub record ThreadFits (fs : List Frame) (n : ℕ) (x : Thread) : Type 0 where
  pub place : has_place n x.place ≡ true
  pub starter : x.starter ≤ most_threads
  pub items_room : length x.continuation ≤ most_items
  pub variables_room : length x.variables ≤ most_variables
  pub items : All (ItemFits fs n) x.continuation
  pub values : All ValueFits x.variables

pub record SchedulerFits (m : ℕ) (x : Scheduler) : Type 0 where
  pub active_room : length x.active ≤ most_threads
  pub next_room : length x.next ≤ most_threads
  pub threads : All IsThread x.active
  pub entries : All (EntryFits m) x.next

pub record CellFits (n : ℕ) (x : Stored) : Type 0 where
  pub owner : owner_in_range n x.owner ≡ true
  pub value : ValueFits x.content

-- ---- the state
pub record Shaped (fs : List Frame) (n : ℕ) (s : State) : Type 0 where
  pub threads_room : length s.threads ≤ most_threads
  pub schedulers_room : length s.schedulers ≤ most_schedulers
  pub cells_room : length s.cells ≤ most_cells
  pub events_room : length s.present ≤ most_events
  pub count : length s.schedulers ≡ n
  -- 'Header field C gives the number of events'
  pub events : length s.present ≡ (frame_at fs 0).c
  pub threads : (k : ℕ) → k < length s.threads → ThreadFits fs n (get_or s.threads k no_thread)
  pub schedulers : (k : ℕ) → k < length s.schedulers
      → SchedulerFits (frame_at fs 0).c (get_or s.schedulers k no_scheduler)
  pub cells : (k : ℕ) → k < length s.cells → CellFits n (get_or s.cells k no_cell)

-- the words are those of a state in shape
pub record StateWords (fs : List Frame) (n : ℕ) (w : List ℕ) : Type 0 where
  pub state : State
  pub shaped : Shaped fs n state
  pub words : w ≡ pack state
