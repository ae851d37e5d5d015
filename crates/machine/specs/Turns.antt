-- A turn of a thread: what it works on, how it answers, how the thread moves between lists.
use Rattle.std.specs.Prelude.{◌∷◌, ◌++◌, ◌&&◌, ◌+◌}
use Rattle.basics.specs.Prelude.{List, [], Bool, true, false, not, ℕ, leb}
use Rattle.basics.specs.Prelude.{eqb, length, when◌then◌else◌}
use Rattle.language.specs.{Places.private, Places.has_scheduler, Limits.most_variables}
use Rattle.language.specs.{Limits.most_threads, Limits.most_items, Refusals.stuck}
use Rattle.program.specs.{Trees.Expr, Programs.Program}
use Rattle.machine.specs.Values.{answer_of, Value, Number, Truth, Cell, Outcome, Is, Foreign}
use Rattle.machine.specs.Values.{Spent, Stuck}
use Rattle.machine.specs.Accesses.{Access, Signal}
use Rattle.machine.specs.State.{Stored, Item, Thread, plain, State, scheduler_at, with_thread}
use Rattle.machine.specs.State.{with_scheduler, with_cells, enlist}
use Rattle.machine.specs.Evaluation.{Here, EvalResult, Evaluation, eval}

-- a space of a state: for so many, or without end
pub data Space : Type 0 where
  at_most : ℕ → Space
  endless : Space

-- it has room for n
abbrev pub holds : Space → ℕ → Bool
holds s n = elim s [ at_most m ↦ leb n m | endless ↦ true ]

-- the spaces of a state: of each list, of each continuation, of the variables of each thread
pub record Spaces : Type 0 where
  pub entries : Space
  pub items : Space
  pub values : Space

-- those that a state has
abbrev pub state_spaces : Spaces
state_spaces =
    record { entries = at_most most_threads; items = at_most most_items; values = at_most most_variables }

-- none of them has an end: `NeverFull` (crate reach) compares the two
abbrev pub endless_spaces : Spaces
endless_spaces = record { entries = endless; items = endless; values = endless }

-- what a choice gives: the answer, the acting thread (0: none), the state, the accesses to cells
-- and to events
pub record StepResult : Type 0 where
  pub answer : ℕ
  pub thread : ℕ
  pub state : State
  pub accesses : List Access
  pub signals : List Signal

-- 02, change 4: 'For a choice that isn't refused it equals the length of the list of touches in the
-- stepping rules. A refused choice counts 0, whatever it touched before its refusal.'
unfoldable pub access_count : StepResult → ℕ
access_count r = when eqb r.answer 0 then length r.accesses else 0

-- a turn: the choice, the thread that acts, and that thread without its top item; `spaces` are the
-- state's; `cells`, `accesses` and `signals` are those of the step so far, `state` is the one it
-- was given
pub record Turn : Type 0 where
  pub program : Program
  pub state : State
  pub choice : ℕ
  pub thread : ℕ
  pub self : Thread
  pub cells : List Stored
  pub accesses : List Access
  pub signals : List Signal
  pub spaces : Spaces

abbrev pub here : Turn → ℕ
here u = u.self.place

abbrev pub continuation : Turn → List Item
continuation u = u.self.continuation

abbrev pub variables : Turn → List Value
variables u = u.self.variables

-- 'A thread at place 1 is loose.'
abbrev pub unlinked_here : Turn → Bool
unlinked_here u = eqb (here u) private

abbrev answered : Turn → ℕ → State → StepResult
answered u n s =
    record {
      answer = n;
      thread = u.thread;
      state = s;
      accesses = u.accesses;
      signals = u.signals;
    }

-- a refusal leaves the state as it was, cells made in the step too
abbrev pub refuse : Turn → ℕ → StepResult
refuse u n = answered u n u.state

abbrev pub accept : Turn → State → StepResult
accept u s = answered u 0 s

-- ---- expressions

abbrev pub evaluator : Turn → Here
evaluator u =
    let n = length u.program.shared in
    record { thread = u.thread; place = here u; variables = variables u; shared = n }

-- the turn, which has come so far: these cells, these accesses to cells and to events
abbrev pub turn_so_far : Turn → List Stored → List Access → List Signal → Turn
turn_so_far u cells accesses signals =
    record {
      program = u.program;
      state = u.state;
      choice = u.choice;
      thread = u.thread;
      self = u.self;
      cells = cells;
      accesses = accesses;
      signals = signals;
      spaces = u.spaces;
    }

-- the turn after an evaluation
abbrev pub after_eval : Turn → EvalResult → Turn
after_eval u r = turn_so_far u r.cells (u.accesses ++ r.accesses) u.signals

-- go on with the value, or answer the evaluation's refusal
abbrev pub go_on : Turn → Outcome → (Value → Turn → StepResult) → StepResult
go_on u (Is v) k = k v u
go_on u Foreign k = refuse u (answer_of Foreign)
go_on u Spent k = refuse u (answer_of Spent)
go_on u Stuck k = refuse u (answer_of Stuck)

abbrev pub with_value : Turn → (Here → Evaluation) → (Value → Turn → StepResult) → StepResult
with_value u m k = let r = m (evaluator u) u.cells in go_on (after_eval u r) r.outcome k

unfoldable pub with_values : Turn → List Expr → (List Value → Turn → StepResult) → StepResult
with_values u [] k = k [] u
with_values u (x ∷ xs) k = with_value u (λ h. eval h x) (λ v w. with_values w xs (λ vs. k (v ∷ vs)))

-- 'a condition's kind is tested before a branch is chosen': anything but a truth is 20
abbrev pub by_condition : Turn → Value → StepResult → StepResult → StepResult
by_condition u (Truth true) a b = a
by_condition u (Truth false) a b = b
by_condition u (Number n) a b = refuse u stuck
by_condition u (Cell c) a b = refuse u stuck

-- ---- the thread, and the lists in which it stands

-- the acting thread at place q, with that continuation and those variables
abbrev pub self_at : Turn → ℕ → List Item → List Value → Thread
self_at u q items vars =
    record {
      place = q;
      continuation = items;
      variables = vars;
      starter = u.self.starter;
      ended = u.self.ended;
    }

-- the state with the step's cells, and x as the acting thread
abbrev pub settled : Turn → Thread → State
settled u x = with_thread u.thread x (with_cells u.cells u.state)

-- 'A choice is a party: 2 to 9 a scheduler': one of the file's
unfoldable pub is_scheduler_of : Program → ℕ → Bool
is_scheduler_of p c = has_scheduler p.schedulers c

abbrev pub after_first : List ℕ → List ℕ
after_first xs = elim xs [ [] ↦ [] | t ∷ ts ↦ ts ]

-- the acting thread leaves the active list in which it stands first; an unlinked one stands in none
unfoldable pub leave : Turn → State → State
leave u s =
    let x = scheduler_at s u.choice in
    when is_scheduler_of u.program u.choice
    then with_scheduler u.choice (record { active = after_first x.active; next = x.next }) s
    else s

-- n more entries have room in the next list of scheduler q
unfoldable pub room : Turn → ℕ → ℕ → Bool
room u n q = holds u.spaces.entries (length (scheduler_at u.state q).next + n)

-- the continuation and the variables have room
unfoldable pub fits : Spaces → List Item → List Value → Bool
fits z items vars = holds z.items (length items) && holds z.values (length vars)

-- the thread stays where it is, first, with that continuation and those variables; 'a full .. pile
-- or variable space' is 20
unfoldable pub stay : Turn → List Item → List Value → StepResult
stay u items vars =
    when fits u.spaces items vars
    then accept u (settled u (self_at u (here u) items vars)) else refuse u stuck

-- 'the thread moves: to the end of that next list, or loose'
unfoldable pub move : Turn → ℕ → List Item → StepResult
move u q items =
    let s = leave u (settled u (self_at u q items (variables u))) in
    when not (fits u.spaces items (variables u)) then refuse u stuck else
    when eqb q private then accept u s else
    when room u 1 q then accept u (enlist q (plain u.thread) s) else refuse u stuck

-- 'if S is another place, the thread moves'
unfoldable pub go_to : Turn → ℕ → List Item → StepResult
go_to u q items = when eqb q (here u) then stay u items (variables u) else move u q items
