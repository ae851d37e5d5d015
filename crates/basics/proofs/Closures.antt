-- Sets of numbers below n that grow step by step, and stand still once a step adds nothing: after n
-- + 1 steps they stand still. Assumes nothing.
use mathlib.Core.Path.{◌≡◌, refl, sym, subst, ◌∙◌}
use mathlib.Core.Logic.{◌⊎◌, inl, inr, ⊎_elim}
use mathlib.Core.Bool.{Bool, true, false, true≢false}
use Prim.Native.Nat.{ℕ, zero, suc, ◌+◌, ◌≤◌, ◌<◌}
use native.Mathlib.Omega.{arith}
use native.Mathlib.Decide.{ℕ_discrete}

abbrev pub bit : Bool → ℕ
bit true = 1
bit false = 0

-- how many of the numbers below n are in the set
unfoldable pub count : (ℕ → Bool) → ℕ → ℕ
count p zero = 0
count p (suc n) = bit (p n) + count p n

pub count_most : (p : ℕ → Bool) (n : ℕ) → count p n ≤ n
unfolding count
count_most p zero = omega arith
count_most p (suc n) = let g = count_most p n in go (p n) g
  where
    go : (b : Bool) → count p n ≤ n → bit b + count p n ≤ suc n
    go true g = omega arith
    go false g = omega arith

-- a larger set has more members, or the same
abbrev pub Larger : (ℕ → Bool) → (ℕ → Bool) → ℕ → Type 0
Larger p q n =
    (count p n < count q n) ⊎ ((count p n ≤ count q n) × ((i : ℕ) → i < n → q i ≡ true → p i ≡ true))

pub larger : (p q : ℕ → Bool) (n : ℕ) → ((i : ℕ) → i < n → p i ≡ true → q i ≡ true) → Larger p q n
unfolding count
larger p q zero h = inr (omega arith, λ i l e. absurd (omega arith))
larger p q (suc n) h = go (p n) (q n) refl refl (larger p q n (λ i l. h i (omega arith)))
  where
    at : (i : ℕ) → i < suc n → Dec (i ≡ n) → (i < n → q i ≡ true → p i ≡ true)
        → (q n ≡ true → p n ≡ true) → q i ≡ true → p i ≡ true
    at i l (yes z) f g e = subst (λ (k : ℕ). q k ≡ true → p k ≡ true) (sym z) g e
    at i l (no z) f g e = f (omega (arith, z)) e

    go : (a b : Bool) → p n ≡ a → q n ≡ b → Larger p q n
        → (bit a + count p n < bit b + count q n) ⊎ ((bit a + count p n ≤ bit b + count q n) × ((i : ℕ) → i < suc n → q i ≡ true → p i ≡ true))
    go true true x y (inl g) = inl (omega arith)
    go true true x y (inr g) =
        let m = g.0 in
        inr (omega arith, λ i l e. at i l (ℕ_discrete i n) (g.1 i) (λ _. x) e)
    go true false x y r = absurd (true≢false (sym (h n (omega arith) x) ∙ y))
    go false true x y (inl g) = inl (omega arith)
    go false true x y (inr g) = let m = g.0 in inl (omega arith)
    go false false x y (inl g) = inl (omega arith)
    go false false x y (inr g) =
        let m = g.0 in
        inr (omega arith, λ i l e. at i l (ℕ_discrete i n) (g.1 i) (λ z. absurd (true≢false (sym z ∙ y))) e)

-- a set with one number more has more members
pub fewer : (p q : ℕ → Bool) (n k : ℕ) → ((i : ℕ) → i < n → p i ≡ true → q i ≡ true) → k < n
    → p k ≡ false → q k ≡ true → count p n < count q n
fewer p q n k h l a b = go (larger p q n h)
  where
    go : Larger p q n → count p n < count q n
    go (inl g) = g
    go (inr g) = absurd (true≢false (sym (g.1 k l b) ∙ a))

-- nothing is new after k steps
abbrev pub Still : (ℕ → ℕ → Bool) → ℕ → ℕ → Type 0
Still At n k = (t : ℕ) → t < n → At (suc k) t ≡ true → At k t ≡ true

module _ (At : ℕ → ℕ → Bool) (n : ℕ) (more : (k t : ℕ) → At k t ≡ true → At (suc k) t ≡ true) (still_on : (k : ℕ) → Still At n k → Still At n (suc k)) where
  grows : (k : ℕ) → (k ≤ count (At k) n) ⊎ Still At n k
  grows zero = inl (omega arith)
  grows (suc k) =
      ⊎_elim (λ g. go g (larger (At k) (At (suc k)) n (λ i l. more k i))) (λ h. inr (still_on k h)) (grows k)
    where
      go : k ≤ count (At k) n → Larger (At k) (At (suc k)) n
          → (suc k ≤ count (At (suc k)) n) ⊎ Still At n (suc k)
      go g (inl l) = inl (omega arith)
      go g (inr r) = inr (still_on k (λ t l e. r.1 t l e))

  still : Still At n (suc n)
  still =
      ⊎_elim (λ g. let m = count_most (At (suc n)) n in absurd (omega arith)) (λ h. h) (grows (suc n))

  still_from : (m : ℕ) → suc n ≤ m → Still At n m
  still_from zero l = absurd (omega arith)
  still_from (suc m) l = go (ℕ_discrete m n) (λ r. still_from m r)
    where
      go : Dec (m ≡ n) → (suc n ≤ m → Still At n m) → Still At n (suc m)
      go (yes e) rec = subst (λ (k : ℕ). Still At n (suc k)) (sym e) still
      go (no d) rec = still_on m (rec (omega (arith, d)))

  down : (m t : ℕ) → suc n ≤ m → t < n → At m t ≡ true → At (suc n) t ≡ true
  down zero t l g e = absurd (omega arith)
  down (suc m) t l g e = go (ℕ_discrete m n) (λ r. down m t r g (still_from m r t g e))
    where
      go : Dec (m ≡ n) → (suc n ≤ m → At (suc n) t ≡ true) → At (suc n) t ≡ true
      go (yes z) rec = subst (λ (k : ℕ). At (suc k) t ≡ true) z e
      go (no d) rec = rec (omega (arith, d))

  up : (j k t : ℕ) → At k t ≡ true → (m : ℕ) × (j ≤ m) × (At m t ≡ true)
  up zero k t e = (k, omega arith, e)
  up (suc j) k t e =
      let r = up j k t e in
      (suc r.0, (let l = r.1 in omega arith), more r.0 t r.2)

  -- what is in after any number of steps is in after n + 1
  pub closed : (k t : ℕ) → t < n → At k t ≡ true → At (suc n) t ≡ true
  closed k t l e = let q = up (suc n) k t e in down q.0 t q.1 l q.2
