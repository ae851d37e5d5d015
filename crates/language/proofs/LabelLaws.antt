-- What the functions on labels compute, turn by turn of their loops. Assumes nothing.
use Rattle.std.specs.Prelude.{Option, Some, None}
use mathlib.Core.Path.{◌≡◌, refl, sym, ap, ap₂, ◌∙◌}
use mathlib.Core.Bool.{Bool, true, false}
use mathlib.Core.List.{List, [], ◌∷◌, map}
use Prim.Native.Nat.{ℕ, zero, suc, ◌+◌, ◌-◌, ◌*◌, ◌%◌, ◌^◌, ◌<◌, ◌≤◌}
use native.Mathlib.Nat.{mod-eq_of_lt, one-mul}
use native.Mathlib.Omega.{arith}
use lib.Pow.{pow-lt}
use lib.Dec.{eqb}
use lib.Bits.{bit_or}
use lib.ListN.{get_or, set, length}
use borrow.Author.Tests.{eq-eqb, ne_eqb, le-leb}
use Rattle.basics.proofs.Ifs.{yes, no, and_both}
use Rattle.language.specs.Places.{is_scheduler}
use Rattle.language.specs.Effects.{with_member, set_from}
use Rattle.language.specs.Inner.Labels.{label_at, same_label, in_group, with_label, relabelled}
use Rattle.language.specs.Inner.Reads.{place_read}
use Rattle.language.specs.declared.Place.{Place}
use Rattle.language.proofs.PlaceLaws.{test_bounds, read_at, read_none}

-- ---- `with_label`
pub label_old : (x old new : ℕ) → x ≡ old → new ≡ with_label old new x
label_old x old new h = yes _ (eq-eqb _ _ h) refl

pub label_other : (x old new : ℕ) → (x ≡ old → ⊥) → x ≡ with_label old new x
label_other x old new h = no _ (ne_eqb _ _ h) refl

pub ruleset label_laws = (label_old, label_other)

-- ---- `link`: the first k labels are done
unfoldable pub map_to : (ℕ → ℕ) → ℕ → List ℕ → List ℕ
map_to f zero xs = xs
map_to f (suc k) [] = []
map_to f (suc k) (x ∷ xs) = f x ∷ map_to f k xs

pub map_start : (f : ℕ → ℕ) (xs : List ℕ) → xs ≡ map_to f 0 xs
unfolding map_to
map_start f xs = refl

map_length : (f : ℕ → ℕ) (k : ℕ) (xs : List ℕ) → length (map_to f k xs) ≡ length xs
unfolding map_to
map_length f zero xs = refl
map_length f (suc k) [] = refl
map_length f (suc k) (x ∷ xs) = ap suc (map_length f k xs)

map_next : (f : ℕ → ℕ) (k : ℕ) (xs : List ℕ) → k < length xs
    → set (map_to f k xs) k (f (get_or (map_to f k xs) k 0)) ≡ map_to f (suc k) xs
unfolding map_to
map_next f k [] l = absurd (omega arith)
map_next f zero (x ∷ xs) l = refl
map_next f (suc k) (x ∷ xs) l = ap (λ (ys : List ℕ). f x ∷ ys) (map_next f k xs (omega arith))

pub map_more : (o n k v : ℕ) (xs ys : List ℕ) → v ≡ with_label o n (get_or ys k 0)
    → ys ≡ map_to (with_label o n) k xs → length ys ≡ 8 → k < 8
    → set ys k v ≡ map_to (with_label o n) (k + 1) xs
map_more o n k v xs ys h e l m =
    ap (set ys k) h
    ∙ ap (λ (zs : List ℕ). set zs k (with_label o n (get_or zs k 0))) e
    ∙ map_next (with_label o n) k xs (let z = sym (map_length (with_label o n) k xs) ∙ ap length (sym e) ∙ l in omega arith)
    ∙ ap (λ (i : ℕ). map_to (with_label o n) i xs) (omega arith)

map_all : (f : ℕ → ℕ) (xs : List ℕ) → map_to f (length xs) xs ≡ map f xs
unfolding map_to
map_all f [] = refl
map_all f (x ∷ xs) = ap (λ (ys : List ℕ). f x ∷ ys) (map_all f xs)

pub map_end : (o n k i j u l : ℕ) (xs ys : List ℕ) → o ≡ get_or xs i 0 → i ≡ u - 2 → n ≡ get_or xs j 0
    → j ≡ l - 2 → ys ≡ map_to (with_label o n) k xs → length xs ≡ 8 → k ≤ 8 → 8 ≤ k
    → ys ≡ relabelled (label_at xs u) (label_at xs l) xs
unfolding relabelled
map_end o n k i j u l xs ys a b c d e w p q =
    e ∙ ap (λ (m : ℕ). map_to (with_label o n) m xs) (let z : k ≡ length xs = omega arith in z)
    ∙ map_all (with_label o n) xs
    ∙ ap₂ (λ (x y : ℕ). map (with_label x y) xs) (a ∙ ap (λ (m : ℕ). get_or xs m 0) b)
    (c ∙ ap (λ (m : ℕ). get_or xs m 0) d)

-- ---- `group_set`: the labels from k on are done; `own` is the label whose schedulers are sought
abbrev has_label : List ℕ → ℕ → ℕ → Bool
has_label labels own x = eqb own (label_at labels x)

abbrev pub Gathered : List ℕ → ℕ → ℕ → ℕ → Type 0
Gathered labels own s k = s ≡ set_from (has_label labels own) (2 + k) (8 - k)

pub gather_start : (labels : List ℕ) (own : ℕ) → Gathered labels own 0 8
unfolding set_from
gather_start labels own = refl

module _ (labels : List ℕ) (own s k : ℕ) (h : Gathered labels own s k) (l : 0 < k) (m : k ≤ 8) where
  rest : s ≡ set_from (has_label labels own) (suc (2 + (k - 1))) (8 - k)
  rest = h ∙ ap (λ (q : ℕ). set_from (has_label labels own) q (8 - k)) (omega arith)

  one_more : (r : ℕ) → r ≡ set_from (has_label labels own) (2 + (k - 1)) (suc (8 - k))
      → Gathered labels own r (k - 1)
  one_more r g = g ∙ ap (set_from (has_label labels own) (2 + (k - 1))) (omega arith)

  at_index : get_or labels (k - 1) 0 ≡ label_at labels (2 + (k - 1))
  at_index = ap (λ (i : ℕ). get_or labels i 0) (omega arith)

  scheduler : is_scheduler (2 + (k - 1)) ≡ true
  scheduler = and_both _ _ (le-leb 2 (2 + (k - 1)) (omega arith)) (le-leb (2 + (k - 1)) 9 (omega arith))

  bit_as : 1 * 2 ^ (k - 1) % 256 ≡ 2 ^ (2 + (k - 1) - 2)
  bit_as =
      let e : k - 1 ≡ 2 + (k - 1) - 2 = omega arith in
      rw one-mul (mod-eq_of_lt (pow-lt {j = 8} (let z : k - 1 < 8 = omega arith in z)))
      ∙ ap (λ (i : ℕ). 2 ^ i) e

  pub gather_one : get_or labels (k - 1) 0 ≡ own
      → Gathered labels own (bit_or s (1 * 2 ^ (k - 1) % 256)) (k - 1)
  unfolding set_from with_member
  gather_one g =
      one_more _
      (yes _ (eq-eqb _ _ (sym g ∙ at_index)) (yes _ scheduler (ap₂ bit_or rest bit_as)))

  pub gather_other : (get_or labels (k - 1) 0 ≡ own → ⊥) → Gathered labels own s (k - 1)
  unfolding set_from
  gather_other g = one_more _ (no _ (ne_eqb _ _ (λ z. g (at_index ∙ sym z))) rest)

pub gather_end : (labels : List ℕ) (p own s k i : ℕ) → Gathered labels own s k → own ≡ get_or labels i 0
    → i ≡ p - 2 → k ≤ 0 → s ≡ set_from (same_label labels p) 2 8
gather_end labels p own s k i h e j l =
    let z : k ≡ 0 = omega arith in
    h ∙ ap (λ (i : ℕ). set_from (has_label labels own) (2 + i) (8 - i)) z
    ∙ ap (λ (o : ℕ). set_from (has_label labels o) 2 8) (e ∙ ap (λ (i : ℕ). get_or labels i 0) j)

-- ---- reads of a label
pub index_small : (p i : ℕ) → i ≡ p - 2 → is_scheduler p ≡ true → i < 8
index_small p i e h = let (a, b) = test_bounds 2 p h in omega arith

-- ---- `is_member`
-- x is the place that m, which is n, was read as
module _ (labels : List ℕ) (p n m : ℕ) (x : Option Place) (s : x ≡ place_read (is_scheduler m) m)
    (w : m ≡ n) where
  r : x ≡ place_read (is_scheduler n) n
  r = s ∙ ap (λ (k : ℕ). place_read (is_scheduler k) k) w

  pub no_member : x ≡ None → false ≡ in_group labels p n
  no_member h = rw (read_none (is_scheduler n) n (sym r ∙ h))

  module _ (q : Place) (h : x ≡ Some q) where
    there : (is_scheduler n ≡ true) × (q.number ≡ n)
    there = read_at (is_scheduler n) n q (sym r ∙ h)

    pub read_scheduler : is_scheduler q.number ≡ true
    read_scheduler = ap is_scheduler there.1 ∙ there.0

    pub member_by : (b : Bool) → b ≡ same_label labels p q.number → b ≡ in_group labels p n
    member_by b k = k ∙ ap (same_label labels p) there.1 ∙ sym (rw there.0)

pub step_by_labels : (labels : List ℕ) (p q i j : ℕ) → i ≡ p - 2 → j ≡ q - 2
    → eqb (get_or labels i 0) (get_or labels j 0) ≡ same_label labels p q
step_by_labels labels p q i j e f =
    ap₂ (λ (a b : ℕ). eqb (get_or labels a 0) (get_or labels b 0)) e f
