-- Values, and the numbers of an evaluation's answers.
use Rattle.basics.specs.Prelude.{ℕ, eqb, when◌then◌else◌}
use Rattle.language.specs.Types.{number_type, is_cell}
use Rattle.language.specs.Refusals.{cells_spent, foreign, stuck}
pub use Rattle.machine.specs.declared.value.Value.{Value}
pub use Rattle.machine.specs.declared.value.Value.TheVariants.{Number, Truth, Cell}
pub use Rattle.machine.specs.declared.value.Outcome.{Outcome}
pub use Rattle.machine.specs.declared.value.Outcome.TheVariants.{Is, Foreign, Spent, Stuck}

-- the paper's number of each case: '17 spent', 'Foreign is 19, stuck is 20.'
abbrev pub answer_of : Outcome → ℕ
answer_of o = elim o [ Is v ↦ 0 | Spent ↦ cells_spent | Foreign ↦ foreign | Stuck ↦ stuck ]

-- the truth that a number says: '21 truth S (0 or 1)'
abbrev pub truth_of : ℕ → Value
truth_of n = Truth (eqb n 1)

-- 'Its first content is a number, a truth (0, 1), or, for a cell type, the number of an earlier
-- shared cell of that type.'
unfoldable pub first_content : ℕ → ℕ → Value
first_content type n =
    when is_cell type then Cell n else
    when eqb type number_type then Number n else
    truth_of n
