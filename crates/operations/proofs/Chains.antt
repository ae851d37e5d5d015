-- One operation after another: a value goes on, a refusal stands. Assumes nothing.
use Rattle.std.proofs.Common.{◌≡◌, ℕ, List, sym, refl, ap, ◌∙◌, subst}
use Rattle.program.specs.declared.node.CellUse.{CellUse}
use Rattle.machine.specs.declared.value.Value.{Value}
use Rattle.machine.specs.declared.value.Outcome.{Outcome}
use Rattle.machine.specs.declared.value.Outcome.TheVariants.{Is, Foreign, Spent, Stuck}
use Rattle.operations.specs.declared.Who.{Who}
use Rattle.operations.specs.Inner.Results.{Result, result, then_by, and_then_in}
use Rattle.operations.specs.Inner.ByWords.{using_in}
use Rattle.operations.proofs.Told.{IsRefusal, no_refusal}

-- an outcome that is no value
abbrev pub Refused : Outcome → Type 0
Refused (Is v) = ⊥
Refused Foreign = Unit {0}
Refused Spent = Unit {0}
Refused Stuck = Unit {0}

pub then_is : (x : Result) (v : Value) (k : Value → ℕ → List ℕ → Result) (r : Result)
    → x.outcome ≡ Is v → r ≡ k v x.used x.words → r ≡ and_then_in x k
then_is x v k r e h = h ∙ sym (ap (λ (o : Outcome). then_by o x.used x.words k) e)

refused_then : (o : Outcome) (n : ℕ) (ws : List ℕ) (k : Value → ℕ → List ℕ → Result) → Refused o
    → result o n ws ≡ then_by o n ws k
refused_then (Is v) n ws k h = absurd h
refused_then Foreign n ws k h = refl
refused_then Spent n ws k h = refl
refused_then Stuck n ws k h = refl

pub then_keeps : (x : Result) (k : Value → ℕ → List ℕ → Result) (o : Outcome) → x.outcome ≡ o
    → Refused o → x ≡ and_then_in x k
then_keeps x k o e n = refused_then x.outcome x.used x.words k (subst Refused (sym e) n)

pub then_refused : (x : Result) (k : Value → ℕ → List ℕ → Result) → IsRefusal x.outcome
    → x ≡ and_then_in x k
then_refused x k h = by x.outcome h
  where
    by : (o : Outcome) → IsRefusal o
        → result o x.used x.words ≡ then_by o x.used x.words k
    by (Is v) l = absurd (no_refusal v l)
    by Foreign l = refl
    by Spent l = refl
    by Stuck l = refl

pub using_row : (who : Who) (u v : CellUse) (x r : Result) → u ≡ v → r ≡ and_then_in x (using_in who v)
    → r ≡ and_then_in x (using_in who u)
using_row who u v x r e h = h ∙ sym (ap (λ (y : CellUse). and_then_in x (using_in who y)) e)
