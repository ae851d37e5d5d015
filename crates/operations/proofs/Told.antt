-- What the else branch of a `let` is told: which variants are left. Assumes nothing.
use Rattle.std.proofs.Common.{ℕ, Bool, [], ◌∷◌, inl, inr, arith}
use denote.Enum.Declared.{tag_of}
use types.Run.{OneOf}
use borrow.Enum.Refused.{Among, opened}
use Rattle.machine.specs.declared.value.Value.{Value}
use Rattle.machine.specs.declared.value.Value.TheVariants.{Number, Truth, Cell}
use Rattle.machine.specs.declared.value.Outcome.{Outcome}
use Rattle.machine.specs.declared.value.Outcome.TheVariants.{Is}
use Rattle.machine.specs.contracts.value.Value as value
use Rattle.machine.specs.contracts.value.Outcome as outcome
use Rattle.operations.specs.declared.operand.Operand.{Operand}
use Rattle.operations.specs.contracts.operand.Operand as operand

-- ---- no value: Foreign, Spent or Stuck
abbrev pub IsRefusal : Outcome → Type 0
IsRefusal o = Among (1 ∷ 2 ∷ 3 ∷ []) (tag_of outcome.the_type o)

no_refusal_of : (v : Value) → OneOf (1 ∷ 2 ∷ 3 ∷ []) (tag_of outcome.the_type (Is v)) → ⊥
no_refusal_of v (inl e) = omega arith
no_refusal_of v (inr (inl e)) = omega arith
no_refusal_of v (inr (inr e)) = omega arith

pub no_refusal : (v : Value) → IsRefusal (Is v) → ⊥
no_refusal v h = no_refusal_of v (opened h)

-- ---- a value of another kind
abbrev pub IsNoNumber : Value → Type 0
IsNoNumber v = Among (1 ∷ 2 ∷ []) (tag_of value.the_type v)

a_number_of : (n : ℕ) → OneOf (1 ∷ 2 ∷ []) (tag_of value.the_type (Number n)) → ⊥
a_number_of n (inl e) = omega arith
a_number_of n (inr e) = omega arith

pub a_number : (n : ℕ) → IsNoNumber (Number n) → ⊥
a_number n h = a_number_of n (opened h)

abbrev pub IsNoTruth : Value → Type 0
IsNoTruth v = Among (0 ∷ 2 ∷ []) (tag_of value.the_type v)

a_truth_of : (b : Bool) → OneOf (0 ∷ 2 ∷ []) (tag_of value.the_type (Truth b)) → ⊥
a_truth_of b (inl e) = omega arith
a_truth_of b (inr e) = omega arith

pub a_truth_lem : (b : Bool) → IsNoTruth (Truth b) → ⊥
a_truth_lem b h = a_truth_of b (opened h)

abbrev pub IsNoCell : Value → Type 0
IsNoCell v = Among (0 ∷ 1 ∷ []) (tag_of value.the_type v)

a_cell_of : (c : ℕ) → OneOf (0 ∷ 1 ∷ []) (tag_of value.the_type (Cell c)) → ⊥
a_cell_of c (inl e) = omega arith
a_cell_of c (inr e) = omega arith

pub a_cell : (c : ℕ) → IsNoCell (Cell c) → ⊥
a_cell c h = a_cell_of c (opened h)

-- ---- no number where one is wanted
abbrev pub IsNoOperand : Operand → Type 0
IsNoOperand p = Among (1 ∷ 2 ∷ 3 ∷ 4 ∷ []) (tag_of operand.the_type p)

an_operand_of : (n : ℕ) → OneOf (1 ∷ 2 ∷ 3 ∷ 4 ∷ []) (tag_of operand.the_type (Operand.Number n)) → ⊥
an_operand_of n (inl e) = omega arith
an_operand_of n (inr (inl e)) = omega arith
an_operand_of n (inr (inr (inl e))) = omega arith
an_operand_of n (inr (inr (inr e))) = omega arith

pub an_operand : (n : ℕ) → IsNoOperand (Operand.Number n) → ⊥
an_operand n h = an_operand_of n (opened h)
