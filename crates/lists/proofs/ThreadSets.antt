-- Sets of threads as the bits of a number: the test of a member as the code makes it, and a set with
-- one thread more. Assumes nothing.
use mathlib.Core.Path.{◌≡◌, refl, sym, ap, ◌∙◌}
use mathlib.Core.Bool.{Bool, true, false, not, ◌&&◌, true≢false}
use Prim.Native.Nat.{ℕ, ◌-◌, ◌*◌, ◌/◌, ◌%◌, ◌^◌, ◌<◌, ◌≤◌}
use native.Mathlib.Omega.{arith}
use native.Mathlib.Decide.{ℕ_discrete}
use lib.Dec.{leb, eqb}
use lib.Bits.{bit_and, bit_or, and_mask}
use borrow.Author.Tests.{le-leb, lt-leb, leb-true, eq-eqb, ne_eqb}
use Rattle.basics.proofs.Ifs.{and_true, and_both}
use Rattle.basics.proofs.Bits.{bit, no_bit, set_bit, kept_bit}
use Rattle.basics.proofs.Closures.{count, fewer}
use Rattle.machine.specs.Shapes.{IsThread}
use Rattle.machine.specs.Inner.Ranges.{thread_in_range}
use Rattle.lists.specs.Inner.Families.{has_thread, lacks_thread}

-- ---- numbers of threads
pub is_thread : (t : ℕ) → thread_in_range t ≡ true → IsThread t
unfolding thread_in_range
is_thread t e =
    let r = and_true (leb 1 t) (leb t 64) e in
    (leb-true 1 t r.0, leb-true t 64 r.1)

pub thread_is : (t : ℕ) → IsThread t → thread_in_range t ≡ true
unfolding thread_in_range
thread_is t h = and_both _ _ (le-leb 1 t h.0) (le-leb t 64 h.1)

-- ---- the code's test
module _ (set t : ℕ) where
  pub lacks_none : t ≡ 0 → false ≡ lacks_thread set t
  unfolding lacks_thread thread_in_range
  lacks_none e = ap (λ (n : ℕ). leb 1 n && leb n 64 && not (has_thread set n)) (sym e)

  pub lacks_past : 64 < t → false ≡ lacks_thread set t
  unfolding lacks_thread thread_in_range
  lacks_past l = rw (le-leb 1 t (omega arith), lt-leb t 64 l)

  pub lacks_bit : (t ≡ 0 → ⊥) → t ≤ 64
      → eqb (bit_and (set / 2 ^ (t - 1)) 1) 0 ≡ lacks_thread set t
  unfolding lacks_thread has_thread
  lacks_bit d l =
      ap (λ (b : ℕ). eqb b 0) (and_mask (set / 2 ^ (t - 1)) 1)
      ∙ other (bit (t - 1) set) (omega arith)
      ∙ ap (λ (b : Bool). b && not (eqb (bit (t - 1) set) 1))
      (sym (thread_is t (omega arith, l)))
    where
      other : (b : ℕ) → b < 2 → eqb b 0 ≡ not (eqb b 1)
      other b g = go (ℕ_discrete b 0)
        where
          go : Dec (b ≡ 0) → eqb b 0 ≡ not (eqb b 1)
          go (yes e) = eq-eqb b 0 e ∙ ap not (sym (ne_eqb b 1 (λ z. omega arith)))
          go (no d) = ne_eqb b 0 d ∙ ap not (sym (eq-eqb b 1 (omega (arith, d))))

pub ruleset lacks_laws = (lacks_none, lacks_past, lacks_bit)

-- ---- what it says
pub lacking : (set t : ℕ) → lacks_thread set t ≡ true → IsThread t × (has_thread set t ≡ false)
unfolding lacks_thread
lacking set t e =
    let r = and_true (thread_in_range t) (not (has_thread set t)) e in
    (is_thread t r.0, go (has_thread set t) r.1)
  where
    go : (b : Bool) → not b ≡ true → b ≡ false
    go true h = sym h
    go false h = refl

pub lacks : (set t : ℕ) → IsThread t → lacks_thread set t ≡ not (has_thread set t)
unfolding lacks_thread
lacks set t h = ap (λ (b : Bool). b && not (has_thread set t)) (thread_is t h)

-- a thread that it does not lack is a member
pub not_lacking : (set t : ℕ) → lacks_thread set t ≡ false → IsThread t → has_thread set t ≡ true
not_lacking set t e h = go (has_thread set t) (sym (lacks set t h) ∙ e)
  where
    go : (b : Bool) → not b ≡ false → b ≡ true
    go true q = refl
    go false q = sym q

-- ---- the empty set, and one thread more
pub none_in : (t : ℕ) → has_thread 0 t ≡ false
unfolding has_thread
none_in t = ne_eqb (bit (t - 1) 0) 1 (λ e. let z = no_bit (t - 1) in omega arith)

module _ (set t : ℕ) (h : IsThread t) where
  abbrev more : ℕ
  more = bit_or set (1 * 2 ^ (t - 1) % 2 ^ 64)

  pub added_in : has_thread (bit_or set (1 * 2 ^ (t - 1) % 2 ^ 64)) t ≡ true
  unfolding has_thread
  added_in =
      let a = h.0 in
      let b = h.1 in
      eq-eqb (bit (t - 1) more) 1 (set_bit set (t - 1) (omega arith))

  pub added_other : (u : ℕ) → IsThread u → (u ≡ t → ⊥)
      → has_thread (bit_or set (1 * 2 ^ (t - 1) % 2 ^ 64)) u ≡ has_thread set u
  unfolding has_thread
  added_other u g d =
      let a = h.0 in
      let b = h.1 in
      let c = g.0 in
      ap (λ (n : ℕ). eqb n 1)
      (kept_bit set (t - 1) (omega arith) (u - 1) (λ e. d (omega arith)))

  -- what was a member is one
  pub added_keeps : (u : ℕ) → IsThread u → has_thread set u ≡ true
      → has_thread (bit_or set (1 * 2 ^ (t - 1) % 2 ^ 64)) u ≡ true
  added_keeps u g e = go (ℕ_discrete u t)
    where
      go : Dec (u ≡ t) → has_thread more u ≡ true
      go (yes z) = ap (has_thread more) z ∙ added_in
      go (no d) = added_other u g d ∙ e

  -- it lacks fewer threads than before
  pub added_less : has_thread set t ≡ false
      → count (lacks_thread (bit_or set (1 * 2 ^ (t - 1) % 2 ^ 64))) 65 < count (lacks_thread set) 65
  added_less e = fewer (lacks_thread more) (lacks_thread set) 65 t still (let b = h.1 in omega arith) now before
    where
      now : lacks_thread more t ≡ false
      now = lacks more t h ∙ ap not added_in

      before : lacks_thread set t ≡ true
      before = lacks set t h ∙ ap not e

      still : (u : ℕ) → u < 65 → lacks_thread more u ≡ true → lacks_thread set u ≡ true
      still u l q = go (has_thread set u) refl
        where
          r : IsThread u × (has_thread more u ≡ false)
          r = lacking more u q

          go : (b : Bool) → has_thread set u ≡ b → lacks_thread set u ≡ true
          go true z = absurd (true≢false (sym (added_keeps u r.0 z) ∙ r.1))
          go false z = lacks set u r.0 ∙ ap not z

-- ---- the loop that adds what is lacking: the code's test has answered `b`
module _ (set t : ℕ) (b : Bool) (e : b ≡ lacks_thread set t) (f : b ≡ true) where
  pub lacks_taken : (1 ≤ t) × (t ≤ 64)
  lacks_taken = (lacking set t (sym e ∙ f)).0

  pub climb_less : count (lacks_thread (bit_or set (1 * 2 ^ (t - 1) % 2 ^ 64))) 65
      < count (lacks_thread set) 65
  climb_less = let r = lacking set t (sym e ∙ f) in added_less set t r.0 r.1
