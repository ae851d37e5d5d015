-- A property of each thread of a list, by its number, and the changes of the list that keep it.
-- Assumes nothing.
use mathlib.Core.Path.{◌≡◌, subst}
use mathlib.Core.List.{List, [], ◌∷◌, ◌++◌}
use Prim.Native.Nat.{ℕ, zero, suc, ◌+◌}
use native.Mathlib.Omega.{arith}
use lib.ListN.{length, get_or, set}
use Rattle.machine.specs.State.{Thread, no_thread, nth, set_nth}

-- Q holds of each thread, the first of them being number n
pub data Each (Q : ℕ → Thread → Type 0) : ℕ → List Thread → Type 0 where
  nil : {n : ℕ} → Each Q n []
  cons : {n : ℕ} {x : Thread} {xs : List Thread} → Q n x → Each Q (suc n) xs → Each Q n (x ∷ xs)

each_get_d : {Q : ℕ → Thread → Type 0} {xs : List Thread} (n i m : ℕ) → m ≡ n + i → Each Q n xs
    → Q m no_thread → Q m (get_or xs i no_thread)
each_get_d n i m e nil z = z
each_get_d {Q} n zero m e (cons {x = x} q r) z = subst (λ (j : ℕ). Q j x) (omega arith) q
each_get_d n (suc i) m e (cons q r) z = each_get_d (suc n) i m (omega arith) r z

each_set : {Q : ℕ → Thread → Type 0} {xs : List Thread} {x : Thread} (n i m : ℕ) → m ≡ n + i
    → Each Q n xs → Q m x → Each Q n (set xs i x)
each_set n i m e nil z = nil
each_set {Q} {x =
    x} n zero m e (cons q r) z = cons {n = n} (subst (λ (j : ℕ). Q j x) (omega arith) z) r
each_set n (suc i) m e (cons q r) z = cons q (each_set (suc n) i m (omega arith) r z)

-- of all threads, which count from 1; there is no thread 0
pub each_nth : {Q : ℕ → Thread → Type 0} {xs : List Thread} (t : ℕ) → Each Q 1 xs → Q t no_thread
    → Q t (nth xs t)
each_nth zero r z = z
each_nth (suc i) r z = each_get_d 1 i (suc i) (omega arith) r z

pub each_set_nth : {Q : ℕ → Thread → Type 0} {xs : List Thread} {x : Thread} (t : ℕ) → Each Q 1 xs
    → Q t x → Each Q 1 (set_nth xs t x)
each_set_nth zero r z = r
each_set_nth (suc i) r z = each_set 1 i (suc i) (omega arith) r z

pub each_snoc : {Q : ℕ → Thread → Type 0} {xs : List Thread} {x : Thread} (n m : ℕ)
    → m ≡ n + length xs → Each Q n xs → Q m x → Each Q n (xs ++ (x ∷ []))
each_snoc {Q} {x = x} n m e nil z = cons {n = n} (subst (λ (j : ℕ). Q j x) (omega arith) z) nil
each_snoc n m e (cons q r) z = cons q (each_snoc (suc n) m (omega arith) r z)

pub each_map : {Q R : ℕ → Thread → Type 0} {xs : List Thread} (n : ℕ)
    → ((m : ℕ) (x : Thread) → Q m x → R m x) → Each Q n xs → Each R n xs
each_map n f nil = nil
each_map n f (cons q r) = cons (f n _ q) (each_map (suc n) f r)
