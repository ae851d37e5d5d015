-- What a function on lent cells gives, and one such function after another. No reader has to
-- believe it. Assumes nothing: definitions.
use Rattle.std.specs.Prelude.{ℕ, List}
use Rattle.machine.specs.declared.value.Value.{Value}
use Rattle.machine.specs.declared.value.Outcome.{Outcome}
use Rattle.machine.specs.declared.value.Outcome.TheVariants.{Is, Foreign, Spent, Stuck}
use Rattle.operations.specs.Inner.Lent.{lent_count, lent_cells}

-- the outcome, how many cells are in use, and the words of the cells
pub record Result : Type 0 where
  pub outcome : Outcome
  pub used : ℕ
  pub words : List ℕ

abbrev pub result : Outcome → ℕ → List ℕ → Result
result o n ws = record { outcome = o; used = n; words = ws }

-- an outcome beside the words of a state: how many cells are in use, and the cells' words
abbrev pub result_in : Outcome → List ℕ → Result
result_in o w = result o (lent_count w) (lent_cells w)

-- go on with the value, or keep the refusal
abbrev pub then_by : Outcome → ℕ → List ℕ → (Value → ℕ → List ℕ → Result) → Result
then_by (Is v) n ws k = k v n ws
then_by Foreign n ws k = result Foreign n ws
then_by Spent n ws k = result Spent n ws
then_by Stuck n ws k = result Stuck n ws

abbrev pub and_then_in : Result → (Value → ℕ → List ℕ → Result) → Result
and_then_in r k = then_by r.outcome r.used r.words k

-- the same where the words stay
abbrev pub only_by : Outcome → (Value → Outcome) → Outcome
only_by (Is v) k = k v
only_by Foreign k = Foreign
only_by Spent k = Spent
only_by Stuck k = Stuck

abbrev pub keeping : (Value → Outcome) → Value → ℕ → List ℕ → Result
keeping k v n ws = result (k v) n ws
