-- What is found of a part of a program, by its parts. Assumes nothing: definitions.
use Rattle.std.specs.Prelude.{Result, Ok, Err, Bool, ℕ}
use Rattle.language.specs.declared.effect.Effect.{Effect}
use Rattle.language.specs.declared.refusal.Rule.{Rule}
use Rattle.language.specs.declared.refusal.Refusal.{Refusal}
use Rattle.language.specs.Verdicts.{refusal}
use Rattle.rules.specs.declared.finding.Typed.{Typed}
use Rattle.rules.specs.declared.finding.Ending.{Ending}

-- of an expression: its type and its effect, or the first fault in it
abbrev pub Typing : Type 0
Typing = Result Typed Refusal

-- of a statement: its effect and whether it ends at once, or the first fault in it
abbrev pub StatementEffect : Type 0
StatementEffect = Result Ending Refusal

-- below, E is the type of a fault

abbrev pub typed : {E : Type 0} → ℕ → Effect → Result Typed E
typed t e = Ok (record { type_word = t; effect = e })

abbrev pub ending : {E : Type 0} → Effect → Bool → Result Ending E
ending e b = Ok (record { effect = e; at_once = b })

-- frame j breaks rule r; `made` says which fault that is
abbrev pub fault_of : {A E : Type 0} → (Rule → ℕ → E) → Rule → ℕ → Result A E
fault_of made r j = Err (made r j)

abbrev pub fault : {A : Type 0} → Rule → ℕ → Result A Refusal
fault r j = fault_of refusal r j
