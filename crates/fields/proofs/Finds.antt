-- What a verdict says of the search that it comes from. Assumes nothing.
use mathlib.Core.Path.{◌≡◌, sym, ◌∙◌, refl}
use Prim.Native.Nat.{ℕ}
use native.Mathlib.Omega.{arith}
use Rattle.std.specs.Prelude.{Option, Some, None}
use Rattle.language.specs.Verdicts.{Verdict, Accepted}
use Rattle.language.specs.declared.refusal.Rule.{Rule}
use Rattle.fields.specs.Inner.Scans.{refused_at}

-- where nothing is refused, no frame was found
pub found_none : (n : Rule) (o : Option ℕ) {v : Verdict} → v ≡ Accepted → v ≡ refused_at n o
    → o ≡ None
found_none n o e h = go o (sym h ∙ e)
  where
    go : (q : Option ℕ) → refused_at n q ≡ Accepted → q ≡ None
    go None p = refl
    go (Some j) p = absurd (let z : ◌≡◌ {A = ℕ} 0 1 = cc in omega arith)
