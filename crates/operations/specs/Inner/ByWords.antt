-- What one operation does on lent words. No reader has to believe it: on words of cells it does
-- what `eval` does on the cells (crate evaluator). Assumes nothing: definitions.
use Rattle.std.specs.Prelude.{ℕ, ◌+◌, ◌/◌, ◌%◌, Bool, true, false, not, ◌&&◌, ◌||◌, ltb, List, length, ◌==◌, nat_le, nat_lt, slice_index, slice_set}
use Rattle.basics.specs.If.{when◌then◌else◌}
use Rattle.language.specs.Places.{private, home}
use Rattle.language.specs.Limits.{most_cells}
use Rattle.program.specs.declared.node.Leaf.{Leaf}
use Rattle.program.specs.declared.node.CellUse.{CellUse}
use Rattle.program.specs.declared.node.CellUse.TheVariants.{Make, Read}
use Rattle.program.specs.declared.node.Operator.{Operator}
use Rattle.program.specs.declared.node.Operator.TheVariants.{Sum, Less}
use Rattle.machine.specs.Offsets.{truth_from, cell_from, owner_factor}
use Rattle.machine.specs.Values.{truth_of}
use Rattle.machine.specs.State.{thread_owner}
use Rattle.machine.specs.Evaluation.{plus, less_than}
use Rattle.machine.specs.Words.{cell_word}
use Rattle.machine.specs.declared.value.Value.{Value}
use Rattle.machine.specs.declared.value.Value.TheVariants.{Number, Truth, Cell}
use Rattle.machine.specs.declared.value.Outcome.{Outcome}
use Rattle.machine.specs.declared.value.Outcome.TheVariants.{Is, Foreign, Spent, Stuck}
use Rattle.operations.specs.declared.Who.{Who}
use Rattle.operations.specs.declared.operand.Operand.{Operand}
use Rattle.operations.specs.Inner.Results.{Result, result, and_then_in}
use Rattle.operations.specs.Inner.Heaps.{cells_in, with_access, with_cell, accessed}

-- ---- words

-- `word_value`, but a cell's number fits a byte whatever the word is
unfoldable pub value_in : ℕ → Value
value_in w =
    when nat_lt w truth_from then Number w else
    when nat_lt w cell_from then Truth (w == truth_from + 1) else
    Cell (w % most_cells)

abbrev pub owner_in : ℕ → ℕ
owner_in w = w / owner_factor

abbrev pub content_in : ℕ → Value
content_in w = value_in (w % owner_factor)

abbrev pub cell_word_of : ℕ → Value → ℕ
cell_word_of o v = cell_word (record { owner = o; content = v })

-- ---- one definition for each kind, after its operands

unfoldable pub own_in : Who → ℕ → Bool
own_in who o =
    (o == thread_owner who.thread)
    || nat_le home who.place.number && o == who.place.number

unfoldable pub new_owner_in : Who → ℕ → ℕ
new_owner_in who s = when s == private then thread_owner who.thread else s

unfoldable pub variable_in : List ℕ → ℕ → Outcome
variable_in vs s = when nat_lt s (length vs) then Is (value_in (slice_index vs s)) else Stuck

unfoldable pub shared_in : Who → ℕ → Outcome
shared_in who s = when nat_lt s who.shared then Is (Cell s) else Stuck

unfoldable pub make_in : Who → ℕ → Value → ℕ → List ℕ → Result
make_in who s v n ws =
    let c = cells_in n in
    when own_in who (new_owner_in who s) then
    (when ltb c most_cells
    then result (Is (Cell c)) (with_cell n) (slice_set ws c (cell_word_of (new_owner_in who s) v))
    else result Spent (with_access n) ws)
    else result Foreign (with_access n) ws

unfoldable pub leaf_in : Who → List ℕ → Leaf → Outcome
leaf_in who vs (Leaf.Number m) = Is (Number m)
leaf_in who vs (Leaf.Truth s) = Is (truth_of s)
leaf_in who vs (Leaf.Variable s) = variable_in vs s
leaf_in who vs (Leaf.SharedCell s) = shared_in who s

-- v at cell c, whose word is w, where n cells are in use: 20 is tested before 19
unfoldable pub access_in : Who → ℕ → ℕ → ℕ → Value → Outcome
access_in who c n w v =
    when nat_le n c then Stuck else
    when not (own_in who (owner_in w)) then Foreign else
    Is v

unfoldable pub read_in : Who → Value → ℕ → List ℕ → Outcome
read_in who (Cell c) n ws = access_in who c (cells_in n) (slice_index ws c) (content_in (slice_index ws c))
read_in who (Number m) n ws = Stuck
read_in who (Truth b) n ws = Stuck

-- an access that came to o
abbrev pub accessed_by : Outcome → ℕ → List ℕ → Result
accessed_by o n ws = result o (accessed o n) ws

-- an access to cell c for the value v, counted
abbrev pub accessing_in : Who → ℕ → Value → ℕ → List ℕ → Result
accessing_in who c v n ws = accessed_by (access_in who c (cells_in n) (slice_index ws c) v) n ws

abbrev pub reading_in : Who → Value → ℕ → List ℕ → Result
reading_in who v n ws = accessed_by (read_in who v n ws) n ws

abbrev pub using_in : Who → CellUse → Value → ℕ → List ℕ → Result
using_in who (Make s) = make_in who s.number
using_in who Read = reading_in who

-- v in the word of cell c, which keeps its owner
abbrev pub put_word_in : ℕ → Value → ℕ → List ℕ → Result
put_word_in c v n ws = result (Is v) n (slice_set ws c (cell_word_of (owner_in (slice_index ws c)) v))

-- only where the access is allowed: a refusal changes nothing
unfoldable pub store_in : Who → Value → Value → ℕ → List ℕ → Result
store_in who (Cell c) v n ws =
    and_then_in (accessing_in who c v n ws) (put_word_in c)
store_in who (Number m) v n ws = result Stuck n ws
store_in who (Truth b) v n ws = result Stuck n ws

-- 26 and 27 of two numbers
abbrev pub operation : Operator → ℕ → ℕ → Value
operation Sum = plus
operation Less = less_than

-- ---- numbers that are wanted: a wrong kind waits, a refusal stands
abbrev pub number_or : Value → Operand
number_or (Number n) = Operand.Number n
number_or (Truth b) = Operand.Other
number_or (Cell c) = Operand.Other

abbrev pub operand_of : Outcome → Operand
operand_of (Is v) = number_or v
operand_of Foreign = Operand.Foreign
operand_of Spent = Operand.Spent
operand_of Stuck = Operand.Stuck

abbrev pub outcome_of : Operand → Outcome
outcome_of (Operand.Number n) = Is (Number n)
outcome_of Operand.Other = Stuck
outcome_of Operand.Foreign = Foreign
outcome_of Operand.Spent = Spent
outcome_of Operand.Stuck = Stuck

abbrev pub operand_stops : Operand → Bool
operand_stops (Operand.Number n) = false
operand_stops Operand.Other = false
operand_stops Operand.Foreign = true
operand_stops Operand.Spent = true
operand_stops Operand.Stuck = true

abbrev pub outcome_stops : Outcome → Bool
outcome_stops (Is v) = false
outcome_stops Foreign = true
outcome_stops Spent = true
outcome_stops Stuck = true

-- 26 and 27 after their operands: the second's refusal, then 20 for either's kind
abbrev pub first_by : Operator → Operand → ℕ → Outcome
first_by op (Operand.Number m) n = Is (operation op m n)
first_by op Operand.Other n = Stuck
first_by op Operand.Foreign n = Foreign
first_by op Operand.Spent n = Spent
first_by op Operand.Stuck n = Stuck

abbrev pub both_by : Operator → Operand → Operand → Outcome
both_by op p (Operand.Number n) = first_by op p n
both_by op p Operand.Other = Stuck
both_by op p Operand.Foreign = Foreign
both_by op p Operand.Spent = Spent
both_by op p Operand.Stuck = Stuck

-- 28's condition
abbrev pub a_truth : Value → Outcome
a_truth (Truth b) = Is (Truth b)
a_truth (Number n) = Stuck
a_truth (Cell c) = Stuck

-- the first for the truth, else the second
abbrev pub chosen : {A : Type 0} → Value → A → A → A
chosen (Truth b) x y = when b then x else y
chosen (Number n) x y = y
chosen (Cell c) x y = y

abbrev pub chosen_by : Outcome → ℕ → ℕ → ℕ
chosen_by (Is v) b c = chosen v b c
chosen_by Foreign b c = c
chosen_by Spent b c = c
chosen_by Stuck b c = c
