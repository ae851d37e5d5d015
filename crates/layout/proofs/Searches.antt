-- What searches find: `lowest` the lowest index, `earlier` the lower of two, `any` some member.
-- Assumes nothing.
use mathlib.Core.Path.{◌≡◌, refl, sym, ap, ◌∙◌}
use mathlib.Core.Logic.{◌⊎◌, inl, inr, ⊎_elim}
use mathlib.Core.Bool.{Bool, true, false, true≢false}
use mathlib.Core.List.{List, [], ◌∷◌}
use Rattle.std.specs.Prelude.{Option, Some, None}
use Prim.Native.Nat.{ℕ, zero, suc, ◌+◌, ◌-◌, ◌≤◌, ◌<◌, min}
use native.Mathlib.Omega.{arith}
use lib.Dec.{leb}
use borrow.Author.Tests.{leb-true, leb-false}
use lib.ListN.{get_or, length}
use Rattle.basics.specs.Members.{any}
use Rattle.basics.specs.Inner.Searches.{earlier, lowest}

-- ---- the lowest number that has the property P, where there is one
pub data Lowest (P : ℕ → Type 0) : Option ℕ → Type 0 where
  nowhere : ((j : ℕ) → P j → ⊥) → Lowest P None
  lowest_at : {j : ℕ} → P j → ((k : ℕ) → P k → j ≤ k) → Lowest P (Some j)

-- the lowest that has one property or the other
pub either : {P Q : ℕ → Type 0} {o q : Option ℕ} → Lowest P o → Lowest Q q
    → Lowest (λ j. P j ⊎ Q j) (earlier o q)
unfolding earlier
either (Lowest.nowhere h) (Lowest.nowhere g) = Lowest.nowhere (λ j. ⊎_elim (h j) (g j))
either (Lowest.nowhere h) (Lowest.lowest_at p l) =
    Lowest.lowest_at (inr p) (λ k. ⊎_elim (λ x. absurd (h k x)) (l k))
either (Lowest.lowest_at p l) (Lowest.nowhere g) =
    Lowest.lowest_at (inl p) (λ k. ⊎_elim (l k) (λ x. absurd (g k x)))
either {P} {Q} (Lowest.lowest_at {j = i} p l) (Lowest.lowest_at {j = j} q m) = go (leb i j) refl
  where
    go : (b : Bool) → leb i j ≡ b → Lowest (λ k. P k ⊎ Q k) (Some (min i j))
    go true e =
        let c = leb-true i j e in
        let z : min i j ≡ i = omega arith in
        rw z (Lowest.lowest_at (inl p) (λ k. ⊎_elim (l k) (λ x. let a = m k x in omega arith)))
    go false e =
        let c = leb-false i j e in
        let z : min i j ≡ j = omega arith in
        rw z (Lowest.lowest_at (inr q) (λ k. ⊎_elim (λ x. let a = l k x in omega arith) (m k)))

-- of two properties that are the same
pub same_low : {P Q : ℕ → Type 0} {o : Option ℕ} → ((j : ℕ) → P j → Q j) → ((j : ℕ) → Q j → P j)
    → Lowest P o → Lowest Q o
same_low f g (Lowest.nowhere h) = Lowest.nowhere (λ j q. h j (g j q))
same_low f g (Lowest.lowest_at {j = j} p l) = Lowest.lowest_at (f j p) (λ k q. l k (g k q))

-- there is only one lowest: a pass that finds it in another way finds the same
pub lowest_one : {P : ℕ → Type 0} {o q : Option ℕ} → Lowest P o → Lowest P q → o ≡ q
lowest_one (Lowest.nowhere h) (Lowest.nowhere g) = refl
lowest_one (Lowest.nowhere h) (Lowest.lowest_at p l) = absurd (h _ p)
lowest_one (Lowest.lowest_at p l) (Lowest.nowhere g) = absurd (g _ p)
lowest_one (Lowest.lowest_at {j = i} p l) (Lowest.lowest_at {j = j} q m) = let a = l j q in let b = m i p in let e : i ≡ j = omega arith in ap Some e

-- ---- `lowest`: a search through a list that stands from i on
module _ {A : Type 0} (d : A) (wrong : ℕ → A → Bool) where
  -- the member j of the list is wrong
  abbrev Hit : ℕ → List A → ℕ → Type 0
  Hit i xs j = (i ≤ j) × (j < i + length xs) × (wrong j (get_or xs (j - i) d) ≡ true)

  step_down : (i j : ℕ) (x : A) (xs : List A) → suc i ≤ j → Hit i (x ∷ xs) j → Hit (suc i) xs j
  step_down i j x xs l h =
      (l, omega arith, (let e : j - i ≡ suc (j - suc i) = omega arith in (rw e at h).2))

  step_up : (i j : ℕ) (x : A) (xs : List A) → Hit (suc i) xs j → Hit i (x ∷ xs) j
  step_up i j x xs h =
      (omega arith, omega arith, (let e : j - i ≡ suc (j - suc i) = omega arith in rw e h.2))

  not_here : (i j : ℕ) (x : A) (xs : List A) → wrong i x ≡ false → Hit i (x ∷ xs) j → suc i ≤ j
  not_here i j x xs e h = go (leb (suc i) j) refl
    where
      go : (b : Bool) → leb (suc i) j ≡ b → suc i ≤ j
      go true p = leb-true _ _ p
      go false p =
          let l : j < suc i = leb-false (suc i) j p in
          let q : j ≡ i = omega arith in
          let z : j - i ≡ 0 = omega arith in
          absurd (true≢false (sym (rw (z, q) at h).2 ∙ e))

  pub lowest_hit : (xs : List A) (i : ℕ) → Lowest (Hit i xs) (lowest wrong i xs)
  unfolding lowest
  lowest_hit [] i = Lowest.nowhere (λ j h. omega arith)
  lowest_hit (x ∷ xs) i = go (wrong i x) refl (lowest_hit xs (suc i))
    where
      go : (b : Bool) → wrong i x ≡ b → Lowest (Hit (suc i) xs) (lowest wrong (suc i) xs)
          → Lowest (Hit i (x ∷ xs)) (elim b [ true ↦ Some i | false ↦ lowest wrong (suc i) xs ])
      go true e r = Lowest.lowest_at {j = i} (omega arith, omega arith, (let z : i - i ≡ 0 = omega arith in rw z e)) (λ k h. h.0)
      go false e r = same_low (λ j h. step_up i j x xs h) (λ j h. step_down i j x xs (not_here i j x xs e h) h) r

  -- from 0 on
  pub lowest_all : (xs : List A)
      → Lowest (λ j. (j < length xs) × (wrong j (get_or xs j d) ≡ true)) (lowest wrong 0 xs)
  lowest_all xs = same_low (λ j h. (omega arith, (let e : j - 0 ≡ j = omega arith in (rw e at h).2))) (λ j h. (omega arith, omega arith, (let e : j - 0 ≡ j = omega arith in rw e h.1))) (lowest_hit xs 0)

-- ---- `any`: some member passes the test
module _ {A : Type 0} (test : A → Bool) where
  pub any_more : (x : A) (xs : List A) → any test xs ≡ true → any test (x ∷ xs) ≡ true
  unfolding any
  any_more x xs h = go (test x)
    where
      go : (b : Bool) → elim b [ true ↦ true | false ↦ any test xs ] ≡ true
      go true = refl
      go false = h

-- at an index
module _ {A : Type 0} (d : A) (test : A → Bool) where
  pub any_none : (xs : List A) → ((q : ℕ) → q < length xs → test (get_or xs q d) ≡ false)
      → any test xs ≡ false
  unfolding any
  any_none [] h = refl
  any_none (x ∷ xs) h = rw (h 0 (omega arith), any) (any_none xs (λ q l. h (suc q) (omega arith)))

  pub any_false : (xs : List A) → any test xs ≡ false → (q : ℕ) → q < length xs
      → test (get_or xs q d) ≡ false
  unfolding any
  any_false [] h q l = absurd (omega arith)
  any_false (x ∷ xs) h q l = go (test x) refl h q l (λ g r k. any_false xs g r k)
    where
      go : (b : Bool) → test x ≡ b → elim b [ true ↦ true | false ↦ any test xs ] ≡ false → (q : ℕ)
          → q < suc (length xs)
          → (any test xs ≡ false → (r : ℕ) → r < length xs → test (get_or xs r d) ≡ false)
          → test (get_or (x ∷ xs) q d) ≡ false
      go true e g q l r = absurd (true≢false g)
      go false e g zero l r = e
      go false e g (suc q) l r = r g q (omega arith)

  pub record Passes (xs : List A) : Type 0 where
    pub at : ℕ
    pub inside : at < length xs
    pub passes : test (get_or xs at d) ≡ true

  pub any-true : (xs : List A) → any test xs ≡ true → Passes xs
  unfolding any
  any-true [] h = absurd (true≢false (sym h))
  any-true (x ∷ xs) h = go (test x) refl h (λ g. any-true xs g)
    where
      go : (b : Bool) → test x ≡ b → elim b [ true ↦ true | false ↦ any test xs ] ≡ true
          → (any test xs ≡ true → Passes xs) → Passes (x ∷ xs)
      go true e g r = record { at = 0; inside = omega arith; passes = e }
      go false e g r =
          let p = r g in
          record { at = suc p.at; inside = (let l = p.inside in omega arith); passes = p.passes }

  pub any_some : (xs : List A) (q : ℕ) → q < length xs → test (get_or xs q d) ≡ true
      → any test xs ≡ true
  any_some xs q l t = go (any test xs) refl
    where
      go : (b : Bool) → any test xs ≡ b → b ≡ true
      go true e = refl
      go false e = absurd (true≢false (sym t ∙ any_false xs e q l))
