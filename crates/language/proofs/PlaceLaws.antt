-- What the constructors and the tests of `Place` compute, return by return, with the tests that
-- lead there as premises. Assumes nothing.
use Rattle.std.specs.Prelude.{Some, None}
use mathlib.Core.Path.{◌≡◌, refl, sym, ap, ◌∙◌}
use mathlib.Core.Bool.{Bool, true, false, ◌&&◌}
use Prim.Native.Nat.{ℕ, ◌+◌, ◌-◌, ◌≤◌, ◌<◌}
use native.Mathlib.Omega.{arith}
use lib.Dec.{leb}
use borrow.Author.Tests.{lt-leb, le-leb, leb-true}
use Rattle.basics.proofs.Ifs.{and_true, leb_same}
use Rattle.language.specs.Places.{is_place, is_scheduler, has_place, has_scheduler}
use Rattle.language.specs.Inner.Reads.{place_read}
use Rattle.language.specs.declared.Place.{Place}

-- ---- what a constructor's answer says of the number: a place is that number's, and its test holds
pub read_at : (t : Bool) (n : ℕ) (p : Place) → place_read t n ≡ Some p → (t ≡ true) × (p.number ≡ n)
unfolding place_read
read_at true n p e = (refl, cc)
read_at false n p e = absurd (let z : ◌≡◌ {A = ℕ} 0 1 = cc in omega arith)

pub read_none : (t : Bool) (n : ℕ) → place_read t n ≡ None → t ≡ false
unfolding place_read
read_none true n e = absurd (let z : ◌≡◌ {A = ℕ} 0 1 = cc in omega arith)
read_none false n e = refl

-- a number of which it is known that it is one of `low` to 9
pub test_bounds : (low n : ℕ) → (leb low n && leb n 9) ≡ true → (low ≤ n) × (n ≤ 9)
test_bounds low n h =
    let z = and_true (leb low n) (leb n 9) h in (leb-true low n z.0, leb-true n 9 z.1)

pub from_home : (n : ℕ) → is_scheduler n ≡ true → 2 ≤ n
from_home n h = (test_bounds 2 n h).0

pub fits_byte : (n : ℕ) → is_place n ≡ true → n < 256
fits_byte n h = let (a, b) = test_bounds 1 n h in omega arith

-- a scheduler's number is a place's
pub scheduler_place : (n : ℕ) → is_scheduler n ≡ true → is_place n ≡ true
scheduler_place n h =
    let z = test_bounds 2 n h in rw (le-leb 1 n (let (a, b) = z in omega arith), le-leb n 9 z.1)

-- ---- whether a place is a scheduler
module _ (n : ℕ) where
  pub scheduler_under : n < 2 → false ≡ is_scheduler n
  scheduler_under h = rw (lt-leb 2 n h)

  pub scheduler_up_to : 2 ≤ n → leb n 9 ≡ is_scheduler n
  scheduler_up_to h = rw (le-leb 2 n h)

pub ruleset is_scheduler_laws = (scheduler_under, scheduler_up_to)

-- ---- the places of a file and its schedulers
module _ (b n : ℕ) where
  pub file_below : n < 1 → false ≡ has_place b n
  file_below h = rw (lt-leb 1 n h)

  pub file_above : 1 ≤ n → 9 < n → false ≡ has_place b n
  file_above h k = rw (le-leb 1 n h, lt-leb n 9 k)

  pub file_inside : 1 ≤ n → n ≤ 9 → leb (n - 1) b ≡ has_place b n
  file_inside h k =
      rw (le-leb 1 n h, le-leb n 9 k)
      (leb_same (n - 1) b n (1 + b) (λ l. omega arith) (λ l. omega arith))

  pub home_below : n < 2 → false ≡ has_scheduler b n
  home_below h = rw (lt-leb 2 n h)

  -- r is whether it is a place of the file
  pub home_on : (r : Bool) → 2 ≤ n → r ≡ has_place b n → r ≡ has_scheduler b n
  home_on r h e =
      e ∙ ap (λ (t : Bool). t && leb n 9 && leb n (1 + b))
      (le-leb 1 n (omega arith) ∙ sym (le-leb 2 n h))

-- ---- what is known of a place and of a scheduler of a file
pub has_place_lem : (b n : ℕ) → has_place b n ≡ true → (is_place n ≡ true) × (n ≤ 1 + b)
has_place_lem b n h =
    let z = and_true (is_place n) (leb n (1 + b)) h in (z.0, leb-true n (1 + b) z.1)

pub has_scheduler_lem : (b n : ℕ) → has_scheduler b n ≡ true → (is_scheduler n ≡ true) × (n ≤ 1 + b)
has_scheduler_lem b n h =
    let z = and_true (is_scheduler n) (leb n (1 + b)) h in (z.0, leb-true n (1 + b) z.1)

-- one that is not private is a scheduler
pub place_scheduler : (b n : ℕ) → has_place b n ≡ true → (n ≡ 1 → ⊥) → has_scheduler b n ≡ true
place_scheduler b n h d =
    let (p, m) = has_place_lem b n h in
    let (l, k) = test_bounds 1 n p in
    rw (le-leb 2 n (omega (arith, d)), le-leb n 9 k, le-leb n (1 + b) m)
