-- The indices of a block part by part: what holds at the indices of each part holds at all. Assumes
-- nothing.
use Prim.Native.Nat.{ℕ, zero, suc, ◌+◌, ◌-◌, ◌<◌, ◌≤◌}
use mathlib.Core.Path.{◌≡◌, refl, subst}
use mathlib.Core.Bool.{Bool, true, false}
use native.Mathlib.Omega.{arith}
use lib.Dec.{ltb}
use borrow.Author.Tests.{ltb-true, ltb-false}

two_runs : (P : ℕ → Type 0) (n m : ℕ) → ((j : ℕ) → j < n → P j) → ((j : ℕ) → j < m → P (n + j))
    → (j : ℕ) → j < n + m → P j
two_runs P n m a b j g = by (ltb j n) refl
  where
    by : (t : Bool) → ltb j n ≡ t → P j
    by true e = a j (ltb-true j n e)
    by false e =
        let l : n ≤ j = ltb-false j n e in
        let z : n + (j - n) ≡ j = omega arith in
        subst P z (b (j - n) (omega arith))

-- a scheduler's 130: its active list, its next list
pub scheduler_parts : (P : ℕ → Type 0) → ((j : ℕ) → j < 65 → P j) → ((j : ℕ) → j < 65 → P (65 + j))
    → (j : ℕ) → j < 130 → P j
scheduler_parts P = two_runs P 65 65

-- a thread's 55: its place, its starter, whether it lives, its continuation, its variables
pub thread_parts : (P : ℕ → Type 0) → P 0 → P 1 → P 2 → ((j : ℕ) → j < 26 → P (3 + j))
    → ((j : ℕ) → j < 26 → P (29 + j)) → (j : ℕ) → j < 55 → P j
thread_parts P place starter lives items variables =
    two_runs P 29 26 (two_runs P 3 26 three items) variables
  where
    three : (j : ℕ) → j < 3 → P j
    three zero g = place
    three (suc zero) g = starter
    three (suc (suc zero)) g = lives
    three (suc (suc (suc j))) g = absurd (omega arith)
