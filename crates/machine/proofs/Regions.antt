-- Where a word stands, so that what is to be shown of each word is shown region by region: of the
-- 4,834 words, of a thread's 55, of a scheduler's 130. Assumes nothing.
use Prim.Native.Nat.{ℕ, zero, suc, ◌+◌, ◌*◌, ◌-◌, ◌/◌, ◌%◌, ◌<◌, ◌≤◌}
use mathlib.Core.Path.{◌≡◌, sym, subst}
use native.Mathlib.Omega.{arith}
use native.Mathlib.Decide.{dec_lt, ℕ_discrete}

-- the two counts, the schedulers, the threads, the events, the cells
pub by_region : (Q : ℕ → Type 0) → Q 0 → Q 1 → ((k j : ℕ) → k < 8 → j < 130 → Q (2 + 130 * k + j))
    → ((k j : ℕ) → k < 64 → j < 55 → Q (1042 + 55 * k + j))
    → ((e : ℕ) → e < 16 → Q (4562 + e)) → ((c : ℕ) → c < 256 → Q (4578 + c))
    → (i : ℕ) → i < 4834 → Q i
by_region Q threads cells scheduler thread event cell i g = count (ℕ_discrete i 0) (ℕ_discrete i 1)
  where
    from_events : Dec (i < 4578) → 4562 ≤ i → Q i
    from_events (yes l) m =
        let e : 4562 + (i - 4562) ≡ i = omega arith in
        subst Q e (event (i - 4562) (omega arith))
    from_events (no n) m =
        let l : 4578 ≤ i = omega (arith, n) in
        let e : 4578 + (i - 4578) ≡ i = omega arith in
        subst Q e (cell (i - 4578) (omega arith))

    from_threads : Dec (i < 4562) → 1042 ≤ i → Q i
    from_threads (yes l) m =
        let k : ℕ = (i - 1042) / 55 in
        let j : ℕ = (i - 1042) % 55 in
        let e : 1042 + 55 * k + j ≡ i = omega arith in
        subst Q e (thread k j (omega arith) (omega arith))
    from_threads (no n) m = from_events (dec_lt i 4578) (omega (arith, n))

    lists : Dec (i < 1042) → 2 ≤ i → Q i
    lists (yes l) m =
        let k : ℕ = (i - 2) / 130 in
        let j : ℕ = (i - 2) % 130 in
        let e : 2 + 130 * k + j ≡ i = omega arith in
        subst Q e (scheduler k j (omega arith) (omega arith))
    lists (no n) m = from_threads (dec_lt i 4562) (omega (arith, n))

    count : Dec (i ≡ 0) → Dec (i ≡ 1) → Q i
    count (yes e) b = subst Q (sym e) threads
    count (no a) (yes e) = subst Q (sym e) cells
    count (no a) (no b) = lists (dec_lt i 1042) (omega (arith, a, b))

-- its place, its starter, whether it lives, its continuation, its variables
pub by_thread_word : (Q : ℕ → Type 0) → Q 0 → Q 1 → Q 2 → ((j : ℕ) → j < 26 → Q (3 + j))
    → ((j : ℕ) → j < 26 → Q (29 + j)) → (j : ℕ) → j < 55 → Q j
by_thread_word Q place starter lives items values zero g = place
by_thread_word Q place starter lives items values (suc zero) g = starter
by_thread_word Q place starter lives items values (suc (suc zero)) g = lives
by_thread_word Q place starter lives items values (suc (suc (suc j))) g =
    spaces (suc (suc (suc j))) g (omega arith) (dec_lt (suc (suc (suc j))) 29)
  where
    spaces : (i : ℕ) → i < 55 → 3 ≤ i → Dec (i < 29) → Q i
    spaces i g l (yes m) =
        let e : 3 + (i - 3) ≡ i = omega arith in subst Q e (items (i - 3) (omega arith))
    spaces i g l (no n) =
        let m : 29 ≤ i = omega (arith, n) in
        let e : 29 + (i - 29) ≡ i = omega arith in
        subst Q e (values (i - 29) (omega arith))

-- its active list, its next list
pub by_scheduler_word : (Q : ℕ → Type 0) → ((j : ℕ) → j < 65 → Q j)
    → ((j : ℕ) → j < 65 → Q (65 + j)) → (j : ℕ) → j < 130 → Q j
by_scheduler_word Q active next j g = lists (dec_lt j 65)
  where
    lists : Dec (j < 65) → Q j
    lists (yes l) = active j l
    lists (no n) =
        let l : 65 ≤ j = omega (arith, n) in
        let e : 65 + (j - 65) ≡ j = omega arith in
        subst Q e (next (j - 65) (omega arith))
