-- Laws of tests: of `&&`, and of a conditional whose test is known. Assumes nothing.
use mathlib.Core.Path.{◌≡◌, refl, sym, ◌∙◌}
use mathlib.Core.Bool.{Bool, true, false, ◌&&◌, true≢false}
use Rattle.basics.specs.If.{when◌then◌else◌}
use Rattle.basics.proofs.Ifs.{if_all}

pub not_both : (a b : Bool) → (a ≡ true → b ≡ true → ⊥) → (a && b) ≡ false
not_both true true f = absurd (f refl refl)
not_both true false f = refl
not_both false b f = refl

-- P of a conditional whose test is known: true, and false
pub taken : {A : Type 0} (P : A → Type 0) (b : Bool) (x y : A) → b ≡ true → P x
    → P (when b then x else y)
taken P b x y e h = if_all P b x y (λ _. h) (λ f. absurd (true≢false (sym e ∙ f)))

pub passed : {A : Type 0} (P : A → Type 0) (b : Bool) (x y : A) → b ≡ false → P y
    → P (when b then x else y)
passed P b x y e h = if_all P b x y (λ f. absurd (true≢false (sym f ∙ e))) (λ _. h)
