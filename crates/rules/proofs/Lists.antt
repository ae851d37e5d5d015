-- Laws of choices and of lists that the rules use: the searches in them, and the length of a
-- prefix. Assumes nothing.
use Rattle.std.specs.Prelude.{if◌then◌else◌}
use mathlib.Core.Path.{◌≡◌, refl, sym, ap₂, ◌∙◌}
use mathlib.Core.Bool.{Bool, true, false, true≢false}
use mathlib.Core.List.{List, [], ◌∷◌}
use Prim.Native.Nat.{ℕ, ◌≤◌}
use native.Mathlib.Omega.{arith}
use lib.Dec.{eqb}
use lib.ListN.{length, take, length-take}
use borrow.Author.Tests.{eqb-true, eq-eqb}
use Rattle.basics.specs.Members.{every}
use Rattle.basics.specs.Inner.Searches.{same_numbers}
use Rattle.basics.specs.Members.{All}

-- P of a choice, by both cases
pub by_test : {A : Type 0} (P : A → Type 0) (b : Bool) (x y : A) → (b ≡ true → P x)
    → (b ≡ false → P y) → P (if b then x else y)
by_test P true x y f g = f refl
by_test P false x y f g = g refl

-- the same numbers, and nothing else, pass the test
pub same_true : (xs ys : List ℕ) → same_numbers xs ys ≡ true → xs ≡ ys
unfolding same_numbers
same_true [] [] h = refl
same_true [] (y ∷ ys) h = absurd (true≢false (sym h))
same_true (x ∷ xs) [] h = absurd (true≢false (sym h))
same_true (x ∷ xs) (y ∷ ys) h = go (eqb x y) refl (λ g. same_true xs ys g) h
  where
    go : (b : Bool) → eqb x y ≡ b → (same_numbers xs ys ≡ true → xs ≡ ys)
        → elim b [ true ↦ same_numbers xs ys | false ↦ false ] ≡ true → x ∷ xs ≡ y ∷ ys
    go true p r g = ap₂ ◌∷◌ (eqb-true _ _ p) (r g)
    go false p r g = absurd (true≢false (sym g))

pub same_refl : (xs : List ℕ) → same_numbers xs xs ≡ true
unfolding same_numbers
same_refl [] = refl
same_refl (x ∷ xs) = rw (eq-eqb x x refl, same_numbers) (same_refl xs)

pub same_eq : (xs ys : List ℕ) → xs ≡ ys → same_numbers xs ys ≡ true
same_eq xs ys p = rw p (same_refl ys)

-- every member passes the test
pub all_true : {A : Type 0} (test : A → Bool) (xs : List A) → every test xs ≡ true
    → All (λ (x : A). test x ≡ true) xs
unfolding every
all_true test [] h = All.none
all_true {A} test (x ∷ xs) h = go (test x) refl (λ g. all_true test xs g) h
  where
    go : (b : Bool) → test x ≡ b → (every test xs ≡ true → All (λ (y : A). test y ≡ true) xs)
        → elim b [ true ↦ every test xs | false ↦ false ] ≡ true
        → All (λ (y : A). test y ≡ true) (x ∷ xs)
    go true p r g = All.more p (r g)
    go false p r g = absurd (true≢false (sym g))

pub all_every : {A : Type 0} (test : A → Bool) {xs : List A} → All (λ (x : A). test x ≡ true) xs
    → every test xs ≡ true
unfolding every
all_every test All.none = refl
all_every test (All.more h r) = rw (h, every) (all_every test r)

-- the first n of a list are n, where it is long enough
pub prefix_length : (xs : List ℕ) (n : ℕ) {wide : ℕ} → length xs ≡ wide → n ≤ wide
    → n ≡ length (take n xs)
prefix_length xs n e h = sym (length-take n xs ∙ omega arith)
