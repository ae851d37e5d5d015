-- The rule and the frame of whatever is refused. Assumes nothing.
use mathlib.Core.Path.{◌≡◌, refl, sym, ap, ◌∙◌}
use mathlib.Core.List.{List, [], ◌∷◌}
use Prim.Native.Nat.{◌-◌}
use lib.ListN.{get_or}
use Rattle.std.specs.Prelude.{ℕ, Result, Ok, Err}
use Rattle.language.specs.Refusals.{rule_number}
use Rattle.language.specs.declared.refusal.Rule.{Rule}
use Rattle.language.specs.declared.refusal.Refusal.{Refusal}

-- the first of the rules where nothing is refused: no law asks for it there
abbrev pub rule_in : {A : Type 0} → Result A Refusal → Rule
rule_in (Ok x) = Rule.EmptyText
rule_in (Err r) = r.rule

-- 0 where nothing is
abbrev pub frame_in : {A : Type 0} → Result A Refusal → ℕ
frame_in (Ok x) = 0
frame_in (Err r) = r.frame

-- ---- rules with one number are one
abbrev rules : List Rule
rules =
    Rule.EmptyText ∷ Rule.LongText ∷ Rule.MalformedText ∷ Rule.WrongHeader ∷ Rule.WrongField ∷
    Rule.WrongOrder ∷ Rule.TooDeep ∷ Rule.Unbound ∷ Rule.IllTyped ∷ Rule.Escaping ∷
    Rule.WrongEffect ∷ Rule.WhileUnlinked ∷ Rule.InstantLoop ∷ Rule.WrongState ∷
    Rule.NoParty ∷ Rule.NothingReady ∷ Rule.CellsSpent ∷ Rule.ThreadsSpent ∷ Rule.Foreign ∷
    Rule.Stuck ∷ Rule.WrongTree ∷ []

-- the rule with that number
abbrev numbered : ℕ → Rule
numbered n = get_or rules (n - 1) Rule.EmptyText

numbered_back : (r : Rule) → numbered (rule_number r) ≡ r
numbered_back Rule.EmptyText = refl
numbered_back Rule.LongText = refl
numbered_back Rule.MalformedText = refl
numbered_back Rule.WrongHeader = refl
numbered_back Rule.WrongField = refl
numbered_back Rule.WrongOrder = refl
numbered_back Rule.TooDeep = refl
numbered_back Rule.Unbound = refl
numbered_back Rule.IllTyped = refl
numbered_back Rule.Escaping = refl
numbered_back Rule.WrongEffect = refl
numbered_back Rule.WhileUnlinked = refl
numbered_back Rule.InstantLoop = refl
numbered_back Rule.WrongState = refl
numbered_back Rule.NoParty = refl
numbered_back Rule.NothingReady = refl
numbered_back Rule.CellsSpent = refl
numbered_back Rule.ThreadsSpent = refl
numbered_back Rule.Foreign = refl
numbered_back Rule.Stuck = refl
numbered_back Rule.WrongTree = refl

pub same_rule : (m n : Rule) → rule_number m ≡ rule_number n → m ≡ n
same_rule m n e = sym (numbered_back m) ∙ ap numbered e ∙ numbered_back n
