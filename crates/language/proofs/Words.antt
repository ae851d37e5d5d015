-- What the functions on type words compute, return by return, with the tests that lead there as
-- premises: a ruleset for each function. Assumes nothing.
use Rattle.std.specs.Prelude.{Some, None}
use mathlib.Core.Bool.{Bool, true, false, not, ◌&&◌, ◌||◌}
use mathlib.Core.Path.{◌≡◌, refl, sym, ap, subst, ◌∙◌}
use Prim.Native.Nat.{ℕ, ◌+◌, ◌*◌, ◌/◌, ◌%◌, ◌^◌, ◌<◌, ◌≤◌}
use native.Mathlib.Omega.{arith}
use native.Mathlib.Nat.{pow-succ'}
use lib.Dec.{leb, ltb, eqb}
use borrow.Author.Tests.{not-true, not-false, lt-ltb, le-ltb, eq-eqb, ne_eqb}
use borrow.Author.Tests.{ltb-true, ltb-false}
use Rattle.basics.proofs.Ifs.{yes, no, if_all, and_off}
use Rattle.language.specs.Places.{is_place, has_place}
use Rattle.language.specs.Inner.Reads.{cell_read}
use Rattle.language.specs.Types.{cell_depth, is_cell, cell_type, owner_of, content_of, owner_digit}
use Rattle.language.proofs.PlaceLaws.{test_bounds}

-- ---- how deep a type is, by its size
pub depth_0 : (t : ℕ) → t < 0x0010 → 0 ≡ cell_depth t
unfolding cell_depth
depth_0 t h = yes _ (lt-ltb _ _ h) refl

pub depth_1 : (t : ℕ) → 0x0010 ≤ t → t < 0x0100 → 1 ≡ cell_depth t
unfolding cell_depth
depth_1 t a h = no _ (le-ltb _ _ a) (yes _ (lt-ltb _ _ h) refl)

pub depth_2 : (t : ℕ) → 0x0010 ≤ t → 0x0100 ≤ t → t < 0x1000 → 2 ≡ cell_depth t
unfolding cell_depth
depth_2 t a b h = no _ (le-ltb _ _ a) (no _ (le-ltb _ _ b) (yes _ (lt-ltb _ _ h) refl))

pub depth_3 : (t : ℕ) → 0x0010 ≤ t → 0x0100 ≤ t → 0x1000 ≤ t → 3 ≡ cell_depth t
unfolding cell_depth
depth_3 t a b h = no _ (le-ltb _ _ a) (no _ (le-ltb _ _ b) (no _ (le-ltb _ _ h) refl))

-- P of a type's depth, by all four; by three where there is room for one cell more
depth_all : (P : ℕ → Type 0) (t : ℕ) → P 0 → P 1 → P 2 → P 3 → P (cell_depth t)
unfolding cell_depth
depth_all P t x y z w =
    if_all P _ _ _ (λ _. x) (λ _. if_all P _ _ _ (λ _. y) (λ _. if_all P _ _ _ (λ _. z) (λ _. w)))

depth_low : (P : ℕ → Type 0) (t : ℕ) → t < 0x1000 → P 0 → P 1 → P 2 → P (cell_depth t)
unfolding cell_depth
depth_low P t h x y z =
    if_all P _ _ _ (λ _. x)
    (λ _. if_all P _ _ _ (λ _. y) (λ _. subst P (yes _ (lt-ltb _ _ h) refl) z))

-- there is room exactly where it is at most two cells deep
pub depth_room : (t : ℕ) → ltb t 0x1000 ≡ leb (cell_depth t) 2
depth_room t = by (ltb t 0x1000) refl
  where
    by : (r : Bool) → ltb t 0x1000 ≡ r → ltb t 0x1000 ≡ leb (cell_depth t) 2
    by true e = e ∙ depth_low (λ d. true ≡ leb d 2) t (ltb-true t _ e) refl refl refl
    by false e =
        let h = ltb-false t 0x1000 e in
        e ∙ ap (λ (d : ℕ). leb d 2) (depth_3 t (omega arith) (omega arith) h)

-- ---- the unit of the leftmost digit
pub unit_0 : (t : ℕ) → t < 0x0010 → 0x0001 ≡ 16 ^ cell_depth t
unit_0 t h = ap (λ (n : ℕ). 16 ^ n) (depth_0 t h)

pub unit_1 : (t : ℕ) → 0x0010 ≤ t → t < 0x0100 → 0x0010 ≡ 16 ^ cell_depth t
unit_1 t a h = ap (λ (n : ℕ). 16 ^ n) (depth_1 t a h)

pub unit_2 : (t : ℕ) → 0x0010 ≤ t → 0x0100 ≤ t → t < 0x1000 → 0x0100 ≡ 16 ^ cell_depth t
unit_2 t a b h = ap (λ (n : ℕ). 16 ^ n) (depth_2 t a b h)

pub unit_3 : (t : ℕ) → 0x0010 ≤ t → 0x0100 ≤ t → 0x1000 ≤ t → 0x1000 ≡ 16 ^ cell_depth t
unit_3 t a b h = ap (λ (n : ℕ). 16 ^ n) (depth_3 t a b h)

pub ruleset unit_laws = (unit_0, unit_1, unit_2, unit_3)

module _ (t u : ℕ) (e : u ≡ 16 ^ cell_depth t) where
  -- it is not 0, so that it divides
  pub unit_some : 0 < u
  unit_some =
      subst (λ (n : ℕ). 0 < n) (sym e)
      (depth_all (λ d. 0 < 16 ^ d) t (omega arith) (omega arith) (omega arith) (omega arith))

  -- where there is room for one cell more, that cell's word fits, and so do its parts
  pub unit_fits : t < 0x1000 → 16 * u < 2 ^ 16
  unit_fits h =
      subst (λ (n : ℕ). 16 * n < 2 ^ 16) (sym e)
      (depth_low (λ d. 16 * 16 ^ d < 2 ^ 16) t h (omega arith) (omega arith) (omega arith))

  -- o is the number of a place p
  module _ (o p : ℕ) (w : o ≡ p) (b : Bool) (i : b ≡ is_place p) (n : not b ≡ false) (h : t < 0x1000) where
    low : o ≤ 9
    low = let z = (test_bounds 1 p (sym i ∙ not-false b n)).1 in omega arith

    pub cell_fits : o * (16 * u) + t < 2 ^ 16
    cell_fits =
        subst (λ (n : ℕ). o * (16 * n) + t < 2 ^ 16) (sym e)
        (let l = low in depth_low (λ d. o * (16 * 16 ^ d) + t < 2 ^ 16) t h (omega arith) (omega arith)
        (omega arith))

    pub owner_fits : o * (16 * u) < 2 ^ 16
    owner_fits = let f = cell_fits in omega arith

pub ruleset fit_laws = (unit_fits, owner_fits, cell_fits)

-- ---- the parts of a word, from that unit
module _ (t : ℕ) (b : Bool) (c : b ≡ is_cell t) where
  pub owner_none : b ≡ false → 0 ≡ owner_of t
  unfolding owner_of
  owner_none h = no _ (sym c ∙ h) refl

  pub owner_first : (u : ℕ) → b ≡ true → u ≡ 16 ^ cell_depth t → t / u ≡ owner_of t
  unfolding owner_of
  owner_first u h e = yes _ (sym c ∙ h) (ap (λ (n : ℕ). t / n) e)

pub ruleset owner_laws = (owner_none, owner_first)

pub content_rest : (t u : ℕ) → u ≡ 16 ^ cell_depth t → t % u ≡ content_of t
unfolding content_of
content_rest t u e = ap (λ (n : ℕ). t % n) e

-- ---- the type of a cell of owner o around t: b is whether o is a place
module _ (o t : ℕ) (b : Bool) (i : b ≡ is_place o) where
  pub cell_foreign : not b ≡ true → None ≡ cell_read o t
  unfolding cell_read
  cell_foreign h = no _ (rw (sym i ∙ not-true b h)) refl

  pub cell_too_deep : 0x1000 ≤ t → None ≡ cell_read o t
  unfolding cell_read
  cell_too_deep h = no _ (rw (le-ltb t 0x1000 h, and_off)) refl

  pub cell_around : (q u : ℕ) → not b ≡ false → t < 0x1000 → q ≡ o → u ≡ 16 ^ cell_depth t
      → Some (q * (16 * u) + t) ≡ cell_read o t
  unfolding cell_read cell_type
  cell_around q u n h w e =
      yes _ (simp (sym i ∙ not-false b n, lt-ltb _ _ h))
      (ap (λ (p : ℕ). Some (p * (16 * u) + t)) w
      ∙ ap (λ (n : ℕ). Some (o * n + t)) (ap (λ (n : ℕ). 16 * n) e ∙ sym (pow-succ' 16 (cell_depth t))))

pub ruleset cell_type_laws = (cell_foreign, cell_too_deep, cell_around)

-- ---- an owner's digit
module _ (b left o : ℕ) where
  pub digit_0 : o ≡ 0 → eqb left 0 ≡ owner_digit b left o
  unfolding owner_digit
  digit_0 e = yes _ (eq-eqb _ _ e) refl

  by_digit : (r : Bool) → (o ≡ 0 → ⊥) → r ≡ (has_place b o && (not (eqb o 1) || leb left 1))
      → r ≡ owner_digit b left o
  unfolding owner_digit
  by_digit r n h = no _ (ne_eqb _ _ n) h

  -- x is whether m, the same number, names a place of the file; p is the private place's
  module _ (n : o ≡ 0 → ⊥) (x : Bool) (m : ℕ) (g : x ≡ has_place b m) (w : m ≡ o) (p : ℕ) (one : p ≡ 1) where
    f : x ≡ has_place b o
    f = g ∙ ap (has_place b) w

    pub digit_none : x ≡ false → x ≡ owner_digit b left o
    digit_none h = by_digit x n (h ∙ sym (rw (sym f ∙ h)))

    pub digit_scheduler : x ≡ true → (o ≡ p → ⊥) → not (eqb o p) ≡ owner_digit b left o
    digit_scheduler h e =
        by_digit _ n
        (rw (sym f ∙ h, ne_eqb o p e, ne_eqb o 1 (λ (z : o ≡ 1). e (z ∙ sym one))))

    pub digit_private : x ≡ true → o ≡ p → leb left p ≡ owner_digit b left o
    digit_private h e =
        by_digit _ n (rw (sym f ∙ h, eq-eqb o 1 (e ∙ one)) (ap (leb left) one))

pub ruleset digit_laws = (digit_0, digit_none, digit_private, digit_scheduler)
