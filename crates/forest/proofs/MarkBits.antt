-- Marks as the bits of words: what the code's test of a bit and its change of one mean for the
-- marks. Assumes nothing.
use mathlib.Core.Path.{◌≡◌, refl, sym, ap, ◌∙◌}
use mathlib.Core.Bool.{Bool, true, false}
use mathlib.Core.List.{List, ◌∷◌}
use Prim.Native.Nat.{ℕ, zero, suc, ◌*◌, ◌/◌, ◌%◌, ◌^◌, ◌<◌}
use native.Mathlib.Omega.{arith}
use native.Mathlib.Decide.{ℕ_discrete}
use lib.Dec.{eqb}
use lib.Bits.{bit_and, bit_or, and_mask}
use borrow.Author.Tests.{eq-eqb}
use lib.ListN.{get_or, length, set, replicate, length-set}
use lib.Seq.{ext_get_or, get_or-set_same, get_or-set_other}
use Rattle.basics.proofs.Bits.{bit, no_bit, set_bit, kept_bit}
use Rattle.forest.specs.Inner.Walks.{is_marked, each_below, marks_of}

-- ---- a list by its places
each_length : (n : ℕ) (f : ℕ → Bool) → length (each_below n f) ≡ n
unfolding each_below
each_length zero f = refl
each_length (suc n) f = ap suc (each_length n (λ (j : ℕ). f (suc j)))

each_at : (n : ℕ) (f : ℕ → Bool) (j : ℕ) → j < n → get_or (each_below n f) j false ≡ f j
unfolding each_below
each_at zero f j l = absurd (omega arith)
each_at (suc n) f zero l = refl
each_at (suc n) f (suc j) l = each_at n (λ (k : ℕ). f (suc k)) j (omega arith)

each_none : (n : ℕ) (f : ℕ → Bool) → ((j : ℕ) → f j ≡ false) → each_below n f ≡ replicate n false
unfolding each_below
each_none zero f h = refl
each_none (suc n) f h =
    ap (λ (b : Bool). b ∷ each_below n (λ (j : ℕ). f (suc j))) (h 0)
    ∙ ap (λ (bs : List Bool). false ∷ bs) (each_none n (λ (j : ℕ). f (suc j)) (λ j. h (suc j)))

marks_length : (words : List ℕ) → length (marks_of words) ≡ length words * 64
unfolding marks_of
marks_length words = each_length (length words * 64) (is_marked words)

mark_at : (words : List ℕ) (j : ℕ) → j < length words * 64
    → get_or (marks_of words) j false ≡ is_marked words j
unfolding marks_of
mark_at words j l = each_at (length words * 64) (is_marked words) j l

-- ---- where all words are 0, no mark is set
zero_at : (n k : ℕ) → get_or {A = ℕ} (replicate n 0) k 0 ≡ 0
zero_at zero k = refl
zero_at (suc n) zero = refl
zero_at (suc n) (suc k) = zero_at n k

pub no_marks : marks_of (replicate 16 0) ≡ replicate 1024 false
unfolding marks_of
no_marks = each_none 1024 (is_marked (replicate 16 0)) none
  where
    none : (j : ℕ) → is_marked (replicate 16 0) j ≡ false
    none j =
        ap (λ (w : ℕ). eqb (bit (j % 64) w) 1) (zero_at 16 (j / 64))
        ∙ ap (λ (b : ℕ). eqb b 1) (no_bit (j % 64))

module _ (words : List ℕ) (j : ℕ) (l : j < 1024) (wide : length words ≡ 16) where
  long : length (marks_of words) ≡ 1024
  long = let m = marks_length words in omega (arith, wide)

  abbrev old : ℕ
  old = get_or words (j / 64) 0

  -- ---- the code tests a bit
  pub bit_tested : eqb (bit_and (old / 2 ^ (j % 64)) 1) 1 ≡ get_or (marks_of words) j false
  bit_tested =
      let w = wide in
      ap (λ (b : ℕ). eqb b 1) (and_mask (old / 2 ^ (j % 64)) 1)
      ∙ sym (mark_at words j (omega arith))

  -- ---- the code sets a bit
  abbrev new : ℕ
  new = bit_or old (1 * 2 ^ (j % 64) % 2 ^ 64)

  abbrev after : List ℕ
  after = set words (j / 64) new

  new_word : get_or after (j / 64) 0 ≡ new
  new_word = let w = wide in get_or-set_same words (j / 64) new 0 (omega arith)

  own_mark : is_marked after j ≡ true
  own_mark =
      ap (λ (w : ℕ). eqb (bit (j % 64) w) 1) new_word
      ∙ eq-eqb (bit (j % 64) new) 1 (set_bit old (j % 64) (omega arith))

  other_mark : (i : ℕ) → (i ≡ j → ⊥) → is_marked after i ≡ is_marked words i
  other_mark i d = go (ℕ_discrete (i / 64) (j / 64))
    where
      go : Dec (i / 64 ≡ j / 64) → is_marked after i ≡ is_marked words i
      go (yes e) =
          let same = kept_bit old (j % 64) (omega arith) (i % 64) (λ q. d (omega arith)) in
          ap (λ (k : ℕ). eqb (bit (i % 64) (get_or after k 0)) 1) e
          ∙ ap (λ (w : ℕ). eqb (bit (i % 64) w) 1) new_word
          ∙ ap (λ (b : ℕ). eqb b 1) same
          ∙ ap (λ (k : ℕ). eqb (bit (i % 64) (get_or words k 0)) 1) (sym e)
      go (no n) =
          ap (λ (w : ℕ). eqb (bit (i % 64) w) 1)
          (get_or-set_other words (j / 64) (i / 64) new 0 n)

  pub bit_set : marks_of after ≡ set (marks_of words) j true
  bit_set = ext_get_or false (marks_of after) (set (marks_of words) j true) lengths each
    where
      longer : length (marks_of after) ≡ 1024
      longer =
          let a = marks_length after in
          let b = length-set words (j / 64) new in
          let w = wide in
          omega arith

      lengths : length (marks_of after) ≡ length (set (marks_of words) j true)
      lengths = longer ∙ sym (length-set (marks_of words) j true ∙ long)

      each : (i : ℕ) → i < length (marks_of after)
          → get_or (marks_of after) i false ≡ get_or (set (marks_of words) j true) i false
      each i h = go (ℕ_discrete i j)
        where
          here : get_or (marks_of after) i false ≡ is_marked after i
          here = let a = marks_length after in mark_at after i (omega arith)

          go : Dec (i ≡ j)
              → get_or (marks_of after) i false ≡ get_or (set (marks_of words) j true) i false
          go (yes e) =
              let g = long in
              here ∙ ap (is_marked after) e ∙ own_mark
              ∙ sym (get_or-set_same (marks_of words) j true false (omega arith))
              ∙ ap (λ (k : ℕ). get_or (set (marks_of words) j true) k false) (sym e)
          go (no d) =
              let w = wide in
              let m = longer in
              here ∙ other_mark i d ∙ sym (mark_at words i (omega arith))
              ∙ sym (get_or-set_other (marks_of words) j i true false d)
