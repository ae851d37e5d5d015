-- Evaluation. 'Expressions run inside one step, A, B, C in order, unchosen ones not at all.'
use Rattle.std.specs.Prelude.{◌∷◌, ◌++◌, ◌&&◌, ◌||◌, ◌+◌, ◌%◌}
use Rattle.basics.specs.Prelude.{List, [], Bool, true, false, ℕ}
use Rattle.std.specs.Prelude.{◌^◌}
use Rattle.basics.specs.Prelude.{ltb, leb, eqb, length, get_or, set, when◌then◌else◌}
use Rattle.language.specs.{Places.private, Places.home, Limits.most_cells}
use Rattle.program.specs.Trees.{Expr, number, truth, variable, shared, new, content, sum, less}
use Rattle.program.specs.Trees.{choose}
use Rattle.machine.specs.Accesses.{Access}
use Rattle.machine.specs.Values.{truth_of, Value, Number, Truth, Cell, Outcome, Is, Foreign}
use Rattle.machine.specs.Values.{Spent, Stuck}
use Rattle.machine.specs.State.{Stored, cell_at, is_used, free_number, used_cells, with_new_cell}
use Rattle.machine.specs.State.{thread_owner}

infixl 10 ◌>>=◌
-- who evaluates: the acting thread, its place, its variables; and how many cells are shared
pub record Here : Type 0 where
  pub thread : ℕ
  pub place : ℕ
  pub variables : List Value
  pub shared : ℕ

-- what it gives: a value or a refusal, the cells then, the accesses, 'those before a refusal too'
pub record EvalResult : Type 0 where
  pub outcome : Outcome
  pub cells : List Stored
  pub accesses : List Access

-- an evaluation is done on the cells that there are
abbrev pub Evaluation : Type 0
Evaluation = List Stored → EvalResult

-- a value or a refusal, with no access
abbrev pub gives : Outcome → Evaluation
gives o cs = record { outcome = o; cells = cs; accesses = [] }

-- r after those accesses
abbrev pub with_accesses : List Access → EvalResult → EvalResult
with_accesses before r =
    record { outcome = r.outcome; cells = r.cells; accesses = before ++ r.accesses }

-- one after the other: the second takes the value of the first, or the first's refusal stands
abbrev pub and_then : (Value → Evaluation) → EvalResult → Outcome → EvalResult
and_then k r (Is v) = with_accesses r.accesses (k v r.cells)
and_then k r Foreign = r
and_then k r Spent = r
and_then k r Stuck = r

abbrev pub ◌>>=◌ : Evaluation → (Value → Evaluation) → Evaluation
◌>>=◌ m k = λ cs. let r = m cs in and_then k r r.outcome

-- ---- the cells: read and changed by `load`, `store`, `allocate` alone, which log each access

-- not foreign: 'owned .. by the acting thread' or 'by the scheduler on which it stands'
unfoldable pub is_own : Here → ℕ → Bool
is_own h o = eqb o (thread_owner h.thread) || leb home h.place && eqb o h.place

abbrev pub access_of : Here → ℕ → ℕ → Access
access_of h c o = record { cell = c; owner = o; thread = h.thread; place = h.place }

-- an access to cell c of owner o, then r; foreign (and in the list too) where it is another's
unfoldable pub accessing : Here → ℕ → ℕ → Evaluation → Evaluation
accessing h c o r = λ cs.
    with_accesses (access_of h c o ∷ []) (when is_own h o then r cs else gives Foreign cs)

-- at cell c, if it is there, an access and then r: 20 before 19
unfoldable pub at_cell : Here → ℕ → Evaluation → Evaluation
at_cell h c r = λ cs. when is_used cs c then accessing h c (cell_at cs c).owner r cs else gives Stuck cs

-- the content of cell c
abbrev pub load : Here → ℕ → Evaluation
load h c = at_cell h c (λ cs. gives (Is (cell_at cs c).content) cs)

-- v in cell c: 'the cell takes any value' and keeps its owner
abbrev pub put_in : ℕ → Value → Evaluation
put_in c v = λ cs.
    let x : Stored = record { owner = (cell_at cs c).owner; content = v } in
    record { outcome = Is v; cells = set cs c x; accesses = [] }

abbrev pub store : Here → ℕ → Value → Evaluation
store h c v = at_cell h c (put_in c v)

-- a new cell of owner o takes the next number; '17 spent, a 257th cell'
unfoldable pub add_cell : ℕ → Value → Evaluation
add_cell o v = λ cs.
    when ltb (used_cells cs) most_cells
    then gives (Is (Cell (free_number cs))) (with_new_cell cs (record { owner = o; content = v }))
    else gives Spent cs

-- a creation is an access: 19 before 17
abbrev pub allocate : Here → ℕ → Value → Evaluation
allocate h o v = λ cs. accessing h (free_number cs) o (add_cell o v) cs

-- ---- one definition for each kind, after its operands

-- 22: 'a missing variable' is 20
unfoldable pub read_variable : Here → ℕ → Evaluation
read_variable h s =
    let vs = h.variables in
    when ltb s (length vs) then gives (Is (get_or vs s (Number 0))) else gives Stuck

-- 23: a missing shared cell is 20, also where a made cell has that number
unfoldable pub shared_cell : Here → ℕ → Evaluation
shared_cell h s = when ltb s h.shared then gives (Is (Cell s)) else gives Stuck

-- 24's owner: 'the S it was declared or made with, or 16+t where thread t made it with S 1'
unfoldable pub new_owner : Here → ℕ → ℕ
new_owner h s = when eqb s private then thread_owner h.thread else s

-- 24
unfoldable pub make_cell : Here → ℕ → Value → Evaluation
make_cell h s v = allocate h (new_owner h s) v

-- 25: any other value than a cell is 20
unfoldable pub read_cell : Here → Value → Evaluation
read_cell h v = elim v [ Cell c ↦ load h c | Number n ↦ gives Stuck | Truth b ↦ gives Stuck ]

-- 17
unfoldable pub store_cell : Here → Value → Value → Evaluation
store_cell h x v = elim x [ Cell c ↦ store h c v | Number n ↦ gives Stuck | Truth b ↦ gives Stuck ]

-- 26 and 27: two numbers, or 20
unfoldable pub of_numbers : (ℕ → ℕ → Value) → Value → Value → Evaluation
of_numbers f (Number m) (Number n) = gives (Is (f m n))
of_numbers f (Number m) (Truth b) = gives Stuck
of_numbers f (Number m) (Cell c) = gives Stuck
of_numbers f (Truth b) w = gives Stuck
of_numbers f (Cell c) w = gives Stuck

-- 'unsigned, wrapping at 32 bits'
abbrev pub plus : ℕ → ℕ → Value
plus m n = Number ((m + n) % 2 ^ 32)

abbrev pub less_than : ℕ → ℕ → Value
less_than m n = Truth (ltb m n)

-- 28: 'a condition's kind is tested before a branch is chosen'
unfoldable pub by_truth : Value → Evaluation → Evaluation → Evaluation
by_truth (Truth true) a b = a
by_truth (Truth false) a b = b
by_truth (Number n) a b = gives Stuck
by_truth (Cell c) a b = gives Stuck

-- 28's chosen value is a number, or 20
unfoldable pub a_number : Value → Evaluation
a_number (Number n) = gives (Is (Number n))
a_number (Truth b) = gives Stuck
a_number (Cell c) = gives Stuck

-- 'A, B, C in order, unchosen ones not at all'; 'a frame's expressions in order, then its own'
unfoldable pub eval : Here → Expr → Evaluation
eval h (number i n) = gives (Is (Number n))
eval h (truth i n) = gives (Is (truth_of n))
eval h (variable i s) = read_variable h s
eval h (shared i s) = shared_cell h s
eval h (new i s x) = do
  v ← eval h x
  make_cell h s v
eval h (content i x) = do
  v ← eval h x
  read_cell h v
eval h (sum i x y) = do
  v ← eval h x
  w ← eval h y
  of_numbers plus v w
eval h (less i x y) = do
  v ← eval h x
  w ← eval h y
  of_numbers less_than v w
eval h (choose i x y z) = do
  v ← eval h x
  w ← by_truth v (eval h y) (eval h z)
  a_number w

-- 17: 'store B in cell A'
abbrev pub storing : Here → Expr → Expr → Evaluation
storing h x y = do
  v ← eval h x
  w ← eval h y
  store_cell h v w
