-- Numbers and truths that are wanted: a law for each return of the functions of operand.rt. Assumes
-- nothing.
use Rattle.std.proofs.Common.{◌≡◌, ℕ, ◌+◌, ◌%◌, ◌^◌, Bool, true, false, ltb, sym, refl, ap, ◌∙◌}
use Rattle.basics.proofs.Ifs.{yes, no}
use Rattle.program.specs.declared.node.Operator.{Operator}
use Rattle.program.specs.declared.node.Operator.TheVariants.{Sum, Less}
use Rattle.machine.specs.declared.value.Value.{Value}
use Rattle.machine.specs.declared.value.Value.TheVariants.{Number, Truth, Cell}
use Rattle.machine.specs.declared.value.Outcome.{Outcome}
use Rattle.machine.specs.declared.value.Outcome.TheVariants.{Is, Foreign, Spent, Stuck}
use Rattle.operations.specs.declared.operand.Operand.{Operand}
use Rattle.operations.specs.Inner.ByWords.{operation, first_by, both_by, number_or, outcome_of}
use Rattle.operations.specs.Inner.ByWords.{a_truth, chosen}
use Rattle.operations.specs.Inner.Results.{only_by}
use Rattle.operations.proofs.Told.{IsRefusal, no_refusal, IsNoNumber, a_number}
use Rattle.operations.proofs.Told.{IsNoTruth, a_truth_lem, IsNoOperand, an_operand}

-- ---- 26 and 27: of two numbers, then where the first or both are what numbers were wanted of
pub sum_row : (op : Operator) (m n r : ℕ) → op ≡ Sum → r ≡ (m + n) % 2 ^ 32
    → Number r ≡ operation op m n
sum_row op m n r e h = ap Number h ∙ sym (ap (λ (x : Operator). operation x m n) e)

pub less_row : (op : Operator) (m n : ℕ) → op ≡ Less → Truth (ltb m n) ≡ operation op m n
less_row op m n e = sym (ap (λ (x : Operator). operation x m n) e)

pub first_number : (op : Operator) (p : Operand) (m n : ℕ) (v : Value) → p ≡ Operand.Number m
    → v ≡ operation op m n → Is v ≡ first_by op p n
first_number op p m n v e h = ap Is h ∙ sym (ap (λ (x : Operand). first_by op x n) e)

pub first_none : (op : Operator) (p : Operand) (n : ℕ) (r : Outcome) → IsNoOperand p
    → r ≡ outcome_of p → r ≡ first_by op p n
first_none op p n r h e = e ∙ by p h
  where
    by : (x : Operand) → IsNoOperand x → outcome_of x ≡ first_by op x n
    by (Operand.Number m) l = absurd (an_operand m l)
    by Operand.Other l = refl
    by Operand.Foreign l = refl
    by Operand.Spent l = refl
    by Operand.Stuck l = refl

pub both_number : (op : Operator) (p q : Operand) (n : ℕ) (r : Outcome) → q ≡ Operand.Number n
    → r ≡ first_by op p n → r ≡ both_by op p q
both_number op p q n r e h = h ∙ sym (ap (both_by op p) e)

pub both_none : (op : Operator) (p q : Operand) (r : Outcome) → IsNoOperand q → r ≡ outcome_of q
    → r ≡ both_by op p q
both_none op p q r h e = e ∙ by q h
  where
    by : (x : Operand) → IsNoOperand x → outcome_of x ≡ both_by op p x
    by (Operand.Number m) l = absurd (an_operand m l)
    by Operand.Other l = refl
    by Operand.Foreign l = refl
    by Operand.Spent l = refl
    by Operand.Stuck l = refl

-- ---- numbers
pub number_is : (v : Value) (n : ℕ) → v ≡ Number n → Operand.Number n ≡ number_or v
number_is v n e = sym (ap number_or e)

pub number_other : (v : Value) → IsNoNumber v → Operand.Other ≡ number_or v
number_other (Number n) h = absurd (a_number n h)
number_other (Truth b) h = refl
number_other (Cell c) h = refl

pub outcome_row : (p q : Operand) (r : Outcome) → p ≡ q → r ≡ outcome_of q → r ≡ outcome_of p
outcome_row p q r e h = h ∙ sym (ap outcome_of e)

-- ---- truths
pub is_truth : (v : Value) (b : Bool) → v ≡ Truth b → Is (Truth b) ≡ a_truth v
is_truth v b e = sym (ap a_truth e)

pub no_truth : (v : Value) → IsNoTruth v → Stuck ≡ a_truth v
no_truth (Number n) h = refl
no_truth (Truth b) h = absurd (a_truth_lem b h)
no_truth (Cell c) h = refl

pub only_refused : (o : Outcome) (k : Value → Outcome) → IsRefusal o → o ≡ only_by o k
only_refused (Is v) k h = absurd (no_refusal v h)
only_refused Foreign k h = refl
only_refused Spent k h = refl
only_refused Stuck k h = refl

-- ---- whether an evaluation stops
-- ---- which of two frames a truth chooses
pub chosen_first : (v : Value) (t : Bool) (b c : ℕ) → v ≡ Truth t → t ≡ true → b ≡ chosen v b c
chosen_first v t b c e h = yes _ h refl ∙ ap (λ (x : Value). chosen x b c) (sym e)

pub chosen_second : (v : Value) (t : Bool) (b c : ℕ) → v ≡ Truth t → t ≡ false → c ≡ chosen v b c
chosen_second v t b c e h = no _ h refl ∙ ap (λ (x : Value). chosen x b c) (sym e)

pub chosen_none : (v : Value) (b c : ℕ) → IsNoTruth v → c ≡ chosen v b c
chosen_none (Number n) b c h = refl
chosen_none (Truth t) b c h = absurd (a_truth_lem t h)
chosen_none (Cell j) b c h = refl

-- of each function of `operand`
pub ruleset operation_laws = (sum_row, less_row)

pub ruleset first_laws = (first_none, first_number)

pub ruleset both_laws = (both_none, both_number)

pub ruleset number_laws = (number_other, number_is)

pub ruleset truth_laws = (no_truth, is_truth)

pub ruleset chosen_laws = (chosen_none, chosen_first, chosen_second)
