-- The state that the stepper keeps: the threads, schedulers, cells and events that there are.
use Rattle.std.specs.Prelude.{◌∷◌, ◌++◌, ◌+◌, ◌-◌}
use Rattle.basics.specs.Prelude.{List, [], Bool, true, false, ℕ, zero, suc}
use Rattle.basics.specs.Prelude.{ltb, length, get_or, set}
use Rattle.language.specs.Places.{home}
use Rattle.program.specs.Trees.{Stmt}
use Rattle.machine.specs.{Offsets.thread_owner_from, Values.Value, Values.Number}

-- a cell in use: its owner, a scheduler or 16+t, and what it holds
pub record Stored : Type 0 where
  pub owner : ℕ
  pub content : Value

-- 'A private cell's owner is 16+t.'
abbrev pub thread_owner : ℕ → ℕ
thread_owner t = thread_owner_from + t

-- an item of a continuation: a statement to run; 'back to here', with the place; 'a drop of the
-- variable', the last one
pub data Item : Type 0 where
  run : Stmt → Item
  back : ℕ → Item
  drop : Item

-- a thread: where it stands (1: unlinked), its continuation (01: pile) from the top, its variables
-- from the first, the thread that started it (0: none, it is `main`), and whether it has ended
pub record Thread : Type 0 where
  pub place : ℕ
  pub continuation : List Item
  pub variables : List Value
  pub starter : ℕ
  pub ended : Bool

-- an entry of a next list: thread t; thread t, waiting for the thread u that it started; thread t,
-- awaiting event e
pub data Entry : Type 0 where
  plain : ℕ → Entry
  waiting awaiting : ℕ → ℕ → Entry

-- 'Each scheduler has an active list and a next list.'
pub record Scheduler : Type 0 where
  pub active : List ℕ
  pub next : List Entry

-- threads count from 1, schedulers from 2, cells and events from 0; of each event, whether it is
-- present
pub record State : Type 0 where
  pub threads : List Thread
  pub schedulers : List Scheduler
  pub cells : List Stored
  pub present : List Bool

-- ---- what stands where there is none
abbrev pub no_thread : Thread
no_thread = record { place = 0; continuation = []; variables = []; starter = 0; ended = true }

abbrev pub no_scheduler : Scheduler
no_scheduler = record { active = []; next = [] }

abbrev pub no_cell : Stored
no_cell = record { owner = 0; content = Number 0 }

-- ---- thread t of a list, and the list with another thread t. There is no thread 0
abbrev pub nth : List Thread → ℕ → Thread
nth xs zero = no_thread
nth xs (suc i) = get_or xs i no_thread

abbrev pub set_nth : List Thread → ℕ → Thread → List Thread
set_nth xs zero x = xs
set_nth xs (suc i) x = set xs i x

-- by which thread thread t was begun; 0: by none
abbrev pub starter_of : List Thread → ℕ → ℕ
starter_of ts t = (nth ts t).starter

-- ---- thread t, scheduler q, cell c
abbrev pub thread_at : State → ℕ → Thread
thread_at s t = nth s.threads t

abbrev pub scheduler_at : State → ℕ → Scheduler
scheduler_at s q = get_or s.schedulers (q - home) no_scheduler

abbrev pub cell_at : List Stored → ℕ → Stored
cell_at cs c = get_or cs c no_cell

-- event e is present
abbrev pub is_present : State → ℕ → Bool
is_present s e = get_or s.present e false

-- ---- the cells in use: whether c is one; a new one's number; how many they are; with a new one
abbrev pub is_used : List Stored → ℕ → Bool
is_used cs c = ltb c (length cs)

abbrev pub free_number : List Stored → ℕ
free_number cs = length cs

abbrev pub used_cells : List Stored → ℕ
used_cells cs = length cs

abbrev pub with_new_cell : List Stored → Stored → List Stored
with_new_cell cs x = cs ++ (x ∷ [])

-- ---- a state with another thread t, another scheduler q, other cells, one more thread (the last),
-- other events present
abbrev state_of : List Thread → List Scheduler → List Stored → List Bool → State
state_of ts qs cs es = record { threads = ts; schedulers = qs; cells = cs; present = es }

abbrev pub with_thread : ℕ → Thread → State → State
with_thread t x s = state_of (set_nth s.threads t x) s.schedulers s.cells s.present

abbrev pub with_scheduler : ℕ → Scheduler → State → State
with_scheduler q x s =
    state_of s.threads (set s.schedulers (q - home) x) s.cells s.present

abbrev pub with_cells : List Stored → State → State
with_cells cs s = state_of s.threads s.schedulers cs s.present

abbrev pub with_new : Thread → State → State
with_new x s = state_of (s.threads ++ (x ∷ [])) s.schedulers s.cells s.present

abbrev pub with_present : List Bool → State → State
with_present es s = state_of s.threads s.schedulers s.cells es

-- entry e 'at the end of this next list', that of scheduler q
unfoldable pub enlist : ℕ → Entry → State → State
enlist q e s =
    let x = scheduler_at s q in
    with_scheduler q (record { active = x.active; next = x.next ++ (e ∷ []) }) s
