-- The rules of expressions by the code's nodes: without operands, of a value, of two numbers.
-- Assumes nothing: definitions.
use Rattle.std.specs.Prelude.{◌≡◌, true, List, ℕ, Result}
use Rattle.language.specs.Places.{is_place}
use Rattle.language.specs.Types.{number_type, truth_type}
use Rattle.language.specs.Effects.{no_effect}
use Rattle.language.specs.Verdicts.{refusal}
use Rattle.language.specs.declared.refusal.Rule.{Rule}
use Rattle.program.specs.declared.node.Leaf.{Leaf}
use Rattle.program.specs.declared.node.Leaf.TheVariants.{Number, Truth, Variable, SharedCell}
use Rattle.program.specs.declared.node.CellUse.{CellUse}
use Rattle.program.specs.declared.node.CellUse.TheVariants.{Make, Read}
use Rattle.program.specs.declared.node.Operator.{Operator}
use Rattle.program.specs.declared.node.Operator.TheVariants.{Sum, Less}
use Rattle.rules.specs.declared.finding.Typed.{Typed}
use Rattle.rules.specs.Inner.Findings.{Typing, typed}
use Rattle.rules.specs.Inner.Checking.{named_rule, new_rule_of, content_rule_of}

-- 20 to 23
abbrev pub leaf_rule : List ℕ → List ℕ → Leaf → ℕ → Typing
leaf_rule cells Γ (Number v) i = typed number_type no_effect
leaf_rule cells Γ (Truth v) i = typed truth_type no_effect
leaf_rule cells Γ (Variable s) i = named_rule Γ s i
leaf_rule cells Γ (SharedCell s) i = named_rule cells s i

-- the owner of a new cell is a place
abbrev pub OwnerPlaced : CellUse → Type 0
OwnerPlaced (Make s) = is_place s.number ≡ true
OwnerPlaced Read = Unit {0}

-- 24 and 25
abbrev pub cell_rule_of : {E : Type 0} → (Rule → ℕ → E) → CellUse → ℕ → Result Typed E
    → Result Typed E
cell_rule_of made (Make s) i x = new_rule_of made s.number i x
cell_rule_of made Read i x = content_rule_of made i x

abbrev pub cell_rule : CellUse → ℕ → Typing → Typing
cell_rule = cell_rule_of refusal

-- 26 and 27: the type of what two numbers make
abbrev pub made_by : Operator → ℕ
made_by Sum = number_type
made_by Less = truth_type
