-- A block of words written over others, `pasted`: word by word, run by run, known from what it
-- leaves at each index, and written again. Assumes nothing.
use Prim.Native.Nat.{ℕ, suc, zero, ◌+◌, ◌-◌, ◌<◌, ◌≤◌}
use mathlib.Core.Path.{◌≡◌, refl, sym, ap, ◌∙◌, subst}
use mathlib.Core.List.{List}
use mathlib.Core.Bool.{Bool, true, false}
use native.Mathlib.Omega.{arith}
use native.Mathlib.Nat.{add-zero, zero-add, le_antisymm}
use native.Mathlib.Decide.{ℕ_discrete}
use lib.Dec.{ltb}
use borrow.Author.Tests.{ltb-true, ltb-false}
use lib.ListN.{get_or, length, set, length-set}
use lib.Seq.{ext_get_or, get_or-set_same, get_or-set_other}
use Rattle.machine.specs.Inner.Blocks.{part, pasted}
use Rattle.machine.proofs.WordLaws.{part_at, part_length, pasted_zero, pasted_more}
use Rattle.machine.proofs.WordLaws.{pasted_length, pasted_in, pasted_out}

-- ---- a block written from its first word on; one more word is `pasted_more`
module _ (d : List ℕ) (at : ℕ) (B : List ℕ) where
  pub first_word : (v : ℕ) → v ≡ get_or B 0 0 → at < length d → 0 < length B
      → set d at v ≡ pasted d at B 1
  first_word v q hd hs =
      ap (λ (k : ℕ). set d k v) (sym (add-zero at))
      ∙ pasted_more d B d at 0 v (pasted_zero d at B) q (omega arith) hs

  -- n words more at once, which are themselves a block s
  pub next_run : (a s : List ℕ) (j n : ℕ) → a ≡ pasted d at B j
      → ((i : ℕ) → i < n → get_or s i 0 ≡ get_or B (j + i) 0) → at + j + n ≤ length d → j + n ≤ length B
      → n ≤ length s
      → pasted a (at + j) s n ≡ pasted d at B (j + n)
  next_run a s j zero e f hd hb hs =
      sym (pasted_zero a (at + j) s) ∙ e ∙ ap (pasted d at B) (sym (add-zero j))
  next_run a s j (suc n) e f hd hb hs =
      let la : length a ≡ length d = ap length e ∙ pasted_length d at B j (omega arith) (omega arith) in
      let x : suc n ≡ n + 1 = omega arith in
      let y : at + j + n ≡ at + (j + n) = omega arith in
      let z : j + n + 1 ≡ j + suc n = omega arith in
      ap (pasted a (at + j) s) x
      ∙ sym (pasted_more a s (pasted a (at + j) s n) (at + j) n (get_or s n 0) refl refl (omega arith) (omega arith))
      ∙ ap (λ (k : ℕ). set (pasted a (at + j) s n) k (get_or s n 0)) y
      ∙ pasted_more d B (pasted a (at + j) s n) at (j + n) (get_or s n 0) (next_run a s j n e (λ i g. f i (omega arith)) (omega arith) (omega arith) (omega arith)) (f n (omega arith)) (omega arith) (omega arith)
      ∙ ap (pasted d at B) z

-- a loop that copies n words ends
pub pasted_end : (d s a : List ℕ) (at j n : ℕ) → a ≡ pasted d at s j → j ≤ n → n ≤ j
    → a ≡ pasted d at s n
pasted_end d s a at j n e x y = e ∙ ap (pasted d at s) (le_antisymm x y)

-- ---- a whole list written over by another: at 0, which the code's index does not add
pub fill_more : (d s a : List ℕ) (j v : ℕ) → a ≡ pasted d 0 s j → v ≡ get_or s j 0 → j < length d
    → j < length s → set a j v ≡ pasted d 0 s (j + 1)
fill_more d s a j v e q hd hs =
    ap (λ (k : ℕ). set a k v) (sym (zero-add j)) ∙ pasted_more d s a 0 j v e q (omega arith) hs

pub fill_all : (d s a : List ℕ) (j n : ℕ) → a ≡ pasted d 0 s j → j ≤ n → n ≤ j → length d ≡ n
    → length s ≡ n → a ≡ s
fill_all d s a j n e x y hd hs =
    pasted_end d s a 0 j n e x y ∙ ext_get_or 0 (pasted d 0 s n) s (pl ∙ hd ∙ sym hs)
    (λ i g. let m : i < n = rw (pl ∙ hd) at g in ap (λ (k : ℕ). get_or (pasted d 0 s n) k 0) (sym (zero-add i)) ∙ pasted_in d 0 s n (omega arith) (omega arith) i m)
  where
    pl : length (pasted d 0 s n) ≡ length d
    pl = pasted_length d 0 s n (omega arith) (omega arith)

-- ---- words that are the block inside it and as before outside are the block pasted
module _ (d e : List ℕ) (at : ℕ) (s : List ℕ) (n : ℕ) (hd : at + n ≤ length d) (hs : n ≤ length s) (long : length e ≡ length d)
    (inside : (j : ℕ) → j < n → get_or e (at + j) 0 ≡ get_or s j 0) (outside : (i : ℕ)
    → (at ≤ i → i < at + n → ⊥) → get_or e i 0 ≡ get_or d i 0) where
  same_word : (i : ℕ) (a b : Bool) → ltb i at ≡ a → ltb i (at + n) ≡ b
      → get_or e i 0 ≡ get_or (pasted d at s n) i 0
  same_word i true b p q =
      let l : i < at = ltb-true i at p in
      outside i (λ x y. omega arith) ∙ sym (pasted_out d at s n hd hs i (λ x y. omega arith))
  same_word i false false p q =
      let l : at + n ≤ i = ltb-false i (at + n) q in
      outside i (λ x y. omega arith) ∙ sym (pasted_out d at s n hd hs i (λ x y. omega arith))
  same_word i false true p q =
      let l : at ≤ i = ltb-false i at p in
      let m : i < at + n = ltb-true i (at + n) q in
      let z : at + (i - at) ≡ i = omega arith in
      subst (λ (k : ℕ). get_or e k 0 ≡ get_or (pasted d at s n) k 0) z
      (inside (i - at) (omega arith) ∙ sym (pasted_in d at s n hd hs (i - at) (omega arith)))

  pub same_pasted : e ≡ pasted d at s n
  same_pasted = ext_get_or 0 e (pasted d at s n) (long ∙ sym (pasted_length d at s n hd hs)) (λ i g. same_word i (ltb i at) (ltb i (at + n)) refl refl)

-- a block's own words
pub pasted_self : (w : List ℕ) (at n : ℕ) → at + n ≤ length w → pasted w at (part w at n) n ≡ w
pasted_self w at n h = let l : length (part w at n) ≡ n = part_length w at n h in
    sym (same_pasted w w at (part w at n) n h (omega arith) refl (λ j g. sym (part_at w at n j g)) (λ i g. refl))

module _ (d : List ℕ) (at : ℕ) (s : List ℕ) (n : ℕ) (hd : at + n ≤ length d) (hs : n ≤ length s) where
  -- one word of a block written again
  pub pasted-set : (j v : ℕ) → j < n → set (pasted d at s n) (at + j) v ≡ pasted d at (set s j v) n
  pasted-set j v h = same_pasted d (set (pasted d at s n) (at + j) v) at (set s j v) n hd (rw (length-set s j v) hs)
      (length-set (pasted d at s n) (at + j) v ∙ pasted_length d at s n hd hs)
      (λ i g. here i g (ℕ_discrete i j))
      (λ i g. get_or-set_other (pasted d at s n) (at + j) i v 0 (λ e. g (omega arith) (omega arith)) ∙ pasted_out d at s n hd hs i g)
    where
      here : (i : ℕ) → i < n → Dec (i ≡ j)
          → get_or (set (pasted d at s n) (at + j) v) (at + i) 0 ≡ get_or (set s j v) i 0
      here i g (yes e) =
          ap (λ (k : ℕ). get_or (set (pasted d at s n) (at + j) v) (at + k) 0) e
          ∙ get_or-set_same (pasted d at s n) (at + j) v 0
          (rw (pasted_length d at s n hd hs) (omega arith))
          ∙ sym (get_or-set_same s j v 0 (omega arith)) ∙ ap (λ (k : ℕ). get_or (set s j v) k 0) (sym e)
      here i g (no e) =
          get_or-set_other (pasted d at s n) (at + j) (at + i) v 0 (λ q. e (omega arith))
          ∙ pasted_in d at s n hd hs i g ∙ sym (get_or-set_other s j i v 0 e)

  -- the whole block written again
  pub pasted-pasted : (t : List ℕ) → n ≤ length t
      → pasted (pasted d at s n) at t n ≡ pasted d at t n
  pasted-pasted t ht = same_pasted d (pasted (pasted d at s n) at t n) at t n hd ht
      (pasted_length (pasted d at s n) at t n hd2 ht ∙ long)
      (λ j g. pasted_in (pasted d at s n) at t n hd2 ht j g)
      (λ i g. pasted_out (pasted d at s n) at t n hd2 ht i g ∙ pasted_out d at s n hd hs i g)
    where
      long : length (pasted d at s n) ≡ length d
      long = pasted_length d at s n hd hs

      hd2 : at + n ≤ length (pasted d at s n)
      hd2 = rw long hd
