-- Findings whose fault comes no later than another. Assumes nothing.
use Rattle.std.specs.Prelude.{Result, Err}
use mathlib.Core.Path.{refl}
use mathlib.Core.Logic.{inr}
use Prim.Native.Nat.{ℕ, ◌≤◌}
use native.Mathlib.Omega.{arith}
use Rattle.language.specs.Refusals.{rule_number}
use Rattle.language.specs.Verdicts.{refusal}
use Rattle.language.specs.declared.refusal.Rule.{Rule}
use Rattle.language.specs.declared.refusal.Refusal.{Refusal}
use Rattle.rules.specs.Broken.{NoLater}
use Rattle.rules.specs.Inner.Findings.{fault}

-- `Sooner n j f`: the finding f, of an expression, a statement, arguments or modules, is a fault
-- that comes no later than rule n at frame j
pub data Sooner {A : Type 0} (n : Rule) (j : ℕ) : Result A Refusal → Type 0 where
  sooner : {r : Refusal} → NoLater r.rule r.frame n j → Sooner n j (Err r)

-- that rule at that frame
pub exactly : {A : Type 0} {n : Rule} {i : ℕ} → Sooner {A = A} n i (fault n i)
exactly {n = n} {i = i} = Sooner.sooner {r = refusal n i} (inr (refl, omega arith))

-- a smaller number at the same frame
pub smaller : {A : Type 0} {n : Rule} (m : Rule) {i : ℕ} → rule_number m ≤ rule_number n
    → Sooner {A = A} n i (fault m i)
smaller m {i = i} h = Sooner.sooner {r = refusal m i} (inr (refl, h))
