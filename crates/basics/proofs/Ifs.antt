-- Laws of the conditional, of the connectives and of equal tests, so that no proof unfolds them.
-- Assumes nothing.
use mathlib.Core.Path.{◌≡◌, refl, sym, ap, ◌∙◌}
use mathlib.Core.Logic.{◌⊎◌, inl, inr}
use mathlib.Core.Bool.{Bool, true, false, ◌&&◌, ◌||◌, true≢false}
use Prim.Native.Nat.{ℕ, ◌≤◌}
use lib.Dec.{leb}
use borrow.Author.Tests.{le-leb, lt-leb, leb-true, leb-false}
use native.Mathlib.Nat.{lt_of_not-le, not-le_of_lt}
use Rattle.basics.specs.If.{when◌then◌else◌}

-- ---- the conditional

-- P of a conditional, by both cases
pub if_all {ℓ} : {A : Type ℓ} (P : A → Type 0) (b : Bool) (x y : A) → (b ≡ true → P x) → (b ≡ false → P y) → P (when b then x else y)
unfolding when◌then◌else◌
if_all P true x y f g = f refl
if_all P false x y f g = g refl

-- a conditional's value, from the test's
pub if_yes : {A : Type 0} {b : Bool} (x y : A) → b ≡ true → (when b then x else y) ≡ x
if_yes {b = b} x y e = if_all (λ w. w ≡ x) b x y (λ _. refl) (λ f. absurd (true≢false (sym e ∙ f)))

pub if_no : {A : Type 0} {b : Bool} (x y : A) → b ≡ false → (when b then x else y) ≡ y
if_no {b = b} x y e = if_all (λ w. w ≡ y) b x y (λ f. absurd (true≢false (sym f ∙ e))) (λ _. refl)

-- the same as steps of a chain: z is the branch, so it is the conditional
pub yes : {A : Type 0} {b : Bool} {z x : A} (y : A) → b ≡ true → z ≡ x → z ≡ (when b then x else y)
yes {x = x} y e h = h ∙ sym (if_yes x y e)

pub no : {A : Type 0} {b : Bool} {z y : A} (x : A) → b ≡ false → z ≡ y → z ≡ (when b then x else y)
no {y = y} x e h = h ∙ sym (if_no x y e)

-- ---- the connectives
pub and_true : (a b : Bool) → (a && b) ≡ true → (a ≡ true) × (b ≡ true)
and_true true b h = (refl, h)
and_true false b h = absurd (true≢false (sym h))

pub and_false : (a b : Bool) → (a && b) ≡ false → a ≡ true → b ≡ true → ⊥
and_false true b h p q = true≢false (sym q ∙ h)
and_false false b h p q = true≢false (sym p)

pub and_both : (a b : Bool) → a ≡ true → b ≡ true → (a && b) ≡ true
and_both true b e f = f
and_both false b e f = absurd (true≢false (sym e))

pub and_off : (a : Bool) → (a && false) ≡ false
and_off true = refl
and_off false = refl

pub and_swap : (a b : Bool) → (a && b) ≡ (b && a)
and_swap true true = refl
and_swap true false = refl
and_swap false true = refl
and_swap false false = refl

pub or_on : (a : Bool) → (a || true) ≡ true
or_on true = refl
or_on false = refl

pub or_true : (a b : Bool) → (a || b) ≡ true → (a ≡ true) ⊎ (b ≡ true)
or_true true b e = inl refl
or_true false b e = inr e

pub or_left : (a b : Bool) → a ≡ true → (a || b) ≡ true
or_left a b e = ap (λ (x : Bool). x || b) e

pub or_right : (a b : Bool) → b ≡ true → (a || b) ≡ true
or_right a b e = ap (λ (x : Bool). a || x) e ∙ or_on a

pub or_off : (b : Bool) → b ≡ (b || false)
or_off true = refl
or_off false = refl

-- ---- tests

-- two tests are the same where each fact follows from the other
pub leb_same : (a b c d : ℕ) → (a ≤ b → c ≤ d) → (c ≤ d → a ≤ b) → leb a b ≡ leb c d
leb_same a b c d f g = by (leb a b) refl
  where
    by : (t : Bool) → leb a b ≡ t → leb a b ≡ leb c d
    by true e = e ∙ sym (le-leb c d (f (leb-true a b e)))
    by false e = e ∙ sym (lt-leb c d (lt_of_not-le (λ h. not-le_of_lt (leb-false a b e) (g h))))
