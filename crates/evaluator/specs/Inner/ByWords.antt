-- The evaluator's own recursion, on words. No reader has to believe it: on words of cells it gives
-- what `eval` gives (proofs/Agreement). Assumes nothing: definitions.
use Rattle.std.specs.Prelude.{List, ℕ}
use Rattle.program.specs.Trees.{Expr, number, truth, variable, shared, new, content, sum, less}
use Rattle.program.specs.Trees.{choose}
use Rattle.machine.specs.Values.{truth_of}
use Rattle.machine.specs.Evaluation.{plus, less_than}
use Rattle.machine.specs.declared.value.Value.{Value}
use Rattle.machine.specs.declared.value.Value.TheVariants.{Number, Truth, Cell}
use Rattle.machine.specs.declared.value.Outcome.{Outcome}
use Rattle.machine.specs.declared.value.Outcome.TheVariants.{Is, Stuck}
use Rattle.operations.specs.declared.Who.{Who}
use Rattle.operations.specs.declared.operand.Operand.{Operand}
use Rattle.operations.specs.Inner.Lent.{lent_count, lent_cells}
use Rattle.operations.specs.Inner.Results.{Result, result, and_then_in, keeping}
use Rattle.operations.specs.Inner.ByWords.{variable_in, shared_in, make_in, reading_in, store_in}
use Rattle.operations.specs.Inner.ByWords.{operand_of, a_truth, chosen}

-- ---- kinds that are wanted, after the operands
abbrev pub numbers_of : (ℕ → ℕ → Value) → Value → Value → Outcome
numbers_of f (Number m) (Number n) = Is (f m n)
numbers_of f (Number m) (Truth b) = Stuck
numbers_of f (Number m) (Cell c) = Stuck
numbers_of f (Truth b) w = Stuck
numbers_of f (Cell c) w = Stuck

abbrev pub a_number_in : Value → Outcome
a_number_in (Number n) = Is (Number n)
a_number_in (Truth b) = Stuck
a_number_in (Cell c) = Stuck

-- ---- the recursion
unfoldable pub eval_in : Who → Expr → List ℕ → ℕ → List ℕ → Result
eval_in who (number i m) vs n ws = result (Is (Number m)) n ws
eval_in who (truth i m) vs n ws = result (Is (truth_of m)) n ws
eval_in who (variable i s) vs n ws = result (variable_in vs s) n ws
eval_in who (shared i s) vs n ws = result (shared_in who s) n ws
eval_in who (new i s x) vs n ws = and_then_in (eval_in who x vs n ws) (make_in who s)
eval_in who (content i x) vs n ws = and_then_in (eval_in who x vs n ws) (reading_in who)
eval_in who (sum i x y) vs n ws =
    and_then_in (eval_in who x vs n ws)
    (λ v m us. and_then_in (eval_in who y vs m us) (keeping (numbers_of plus v)))
eval_in who (less i x y) vs n ws =
    and_then_in (eval_in who x vs n ws)
    (λ v m us. and_then_in (eval_in who y vs m us) (keeping (numbers_of less_than v)))
eval_in who (choose i x y z) vs n ws =
    and_then_in (and_then_in (eval_in who x vs n ws) (keeping a_truth))
    (λ v m us. and_then_in (chosen v (eval_in who y vs m us) (eval_in who z vs m us))
    (keeping a_number_in))

-- where a number is wanted: `eval_in`, with all that is no number as one
pub record WantedResult : Type 0 where
  pub operand : Operand
  pub used : ℕ
  pub words : List ℕ

-- an operand beside the words of a state
abbrev pub wanted_in : Operand → List ℕ → WantedResult
wanted_in p w = record { operand = p; used = lent_count w; words = lent_cells w }

abbrev pub wanted_number : Result → WantedResult
wanted_number r = record { operand = operand_of r.outcome; used = r.used; words = r.words }

abbrev pub number_in : Who → Expr → List ℕ → ℕ → List ℕ → WantedResult
number_in who x vs n ws = wanted_number (eval_in who x vs n ws)

-- 28's condition
abbrev pub truth_in : Who → Expr → List ℕ → ℕ → List ℕ → Result
truth_in who x vs n ws = and_then_in (eval_in who x vs n ws) (keeping a_truth)

-- 17
abbrev pub storing_in : Who → Expr → Expr → List ℕ → ℕ → List ℕ → Result
storing_in who x y vs n ws =
    and_then_in (eval_in who x vs n ws)
    (λ v m us. and_then_in (eval_in who y vs m us) (store_in who v))
