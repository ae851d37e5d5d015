-- The ready test finds the whole family, whatever the threads: in as many steps as there are
-- threads, and three more, nothing is new. Assumes nothing.
use mathlib.Core.Path.{◌≡◌, refl, sym, ap, subst, ◌∙◌}
use mathlib.Core.Logic.{⊎_elim}
use mathlib.Core.Bool.{Bool, true, false, not, ◌||◌, true≢false}
use mathlib.Core.List.{List, [], ◌∷◌}
use Prim.Native.Nat.{ℕ, zero, suc, ◌+◌, ◌≤◌, ◌<◌}
use native.Mathlib.Omega.{arith}
use native.Mathlib.Nat.{add-zero}
use lib.Dec.{eqb, ltb}
use lib.ListN.{length, get_or, get_or-eq_default}
use borrow.Author.Tests.{eq-eqb, eqb-true, ltb-true, ltb-false}
use Rattle.basics.proofs.Ifs.{and_true, or_true, or_left, or_right, and_both}
use Rattle.basics.proofs.Closures.{Still, closed}
use Rattle.machine.specs.State.{Thread, plain, waiting, no_thread, nth, starter_of}
use Rattle.machine.specs.State.{awaiting}
use Rattle.machine.specs.Waits.{Family, itself, begun, Ready, no_wait, all_ended}
use Rattle.machine.specs.Waits.{ReadyComputes}
use Rattle.machine.specs.Waits.{tries_again}
use Rattle.machine.specs.Inner.Families.{family_to, family_steps, in_family, ended_from, is_ready}
use Rattle.machine.proofs.AllBelow.{same_test}

-- ---- the family by steps
found_family : (f : ℕ → ℕ) (u k t : ℕ) → family_to k f u t ≡ true → Family f u t
unfolding family_to
found_family f u zero t e = subst (Family f u) (sym (eqb-true t u e)) itself
found_family f u (suc k) t e =
    ⊎_elim (λ a. subst (Family f u) (sym (eqb-true t u a)) itself)
    (λ a. begun (found_family f u k (f t) a))
    (or_true (eqb t u) (family_to k f u (f t)) e)

steps : (f : ℕ → ℕ) (u : ℕ) {t : ℕ} → Family f u t → (k : ℕ) × (family_to (suc k) f u t ≡ true)
unfolding family_to
steps f u itself = (0, or_left (eqb u u) _ (eq-eqb u u refl))
steps f u (begun {t} h) = let r = steps f u h in (suc r.0, or_right (eqb t u) _ r.1)

-- of threads up to n, where no other number has a starter
module _ (f : ℕ → ℕ) (n : ℕ) (none : f 0 ≡ 0) (past : (t : ℕ) → n < t → f t ≡ 0) (u : ℕ) where
  abbrev At : ℕ → ℕ → Bool
  At k t = family_to (suc k) f u t

  zero_at : (k : ℕ) → family_to k f u 0 ≡ eqb 0 u
  unfolding family_to
  zero_at zero = refl
  zero_at (suc k) =
      ap (λ (x : ℕ). eqb 0 u || family_to k f u x) none
      ∙ ap (λ (b : Bool). eqb 0 u || b) (zero_at k) ∙ twice (eqb 0 u)
    where
      twice : (b : Bool) → (b || b) ≡ b
      twice true = refl
      twice false = refl

  past_at : (k t : ℕ) → n < t → At k t ≡ (eqb t u || eqb 0 u)
  unfolding family_to
  past_at k t l =
      ap (λ (x : ℕ). eqb t u || family_to k f u x) (past t l)
      ∙ ap (λ (b : Bool). eqb t u || b) (zero_at k)

  more : (k t : ℕ) → family_to k f u t ≡ true → family_to (suc k) f u t ≡ true
  unfolding family_to
  more zero t e = or_left (eqb t u) _ e
  more (suc k) t e =
      ⊎_elim (λ a. or_left (eqb t u) _ a) (λ a. or_right (eqb t u) _ (more k (f t) a))
      (or_true (eqb t u) (family_to k f u (f t)) e)

  still_on : (k : ℕ) → Still At (suc n) k → Still At (suc n) (suc k)
  unfolding family_to
  still_on k h t l e =
      ⊎_elim (λ a. or_left (eqb t u) _ a)
      (λ a. or_right (eqb t u) _ (go (ltb n (f t)) refl a))
      (or_true (eqb t u) (At (suc k) (f t)) e)
    where
      go : (b : Bool) → ltb n (f t) ≡ b → At (suc k) (f t) ≡ true → At k (f t) ≡ true
      go true q a =
          let g = ltb-true n (f t) q in
          past_at k (f t) g ∙ sym (past_at (suc k) (f t) g) ∙ a
      go false q a = let g = ltb-false n (f t) q in h (f t) (omega arith) a

  pub family_found : (t : ℕ) → t ≤ n → Family f u t → family_to (family_steps n) f u t ≡ true
  family_found t l h =
      let r = steps f u h in
      closed At (suc n) (λ k. more (suc k)) still_on r.0 t (omega arith) r.1

  pub family_is : (t : ℕ) → family_to (family_steps n) f u t ≡ true → Family f u t
  family_is t e = found_family f u (family_steps n) t e

-- two numbers of steps that are enough find the same
pub same_found : (f : ℕ → ℕ) (n m : ℕ) → f 0 ≡ 0 → ((t : ℕ) → n < t → f t ≡ 0) → n ≤ m
    → (u t : ℕ) → t ≤ n → family_to (family_steps m) f u t ≡ family_to (family_steps n) f u t
same_found f n m none past l u t h =
    same_test _ _ (λ e. family_found f n none past u t h (found_family f u _ t e))
    (λ e. family_found f m none (λ x g. past x (omega arith)) u t (omega arith)
    (found_family f u _ t e))

-- ---- who began a family's member is of each family of which the member is the first
pub begun_by : (f : ℕ → ℕ) {u t : ℕ} → Family f u t → Family f (f u) t
begun_by f itself = begun itself
begun_by f (begun h) = begun (begun_by f h)

-- ---- the ready test
module _ (test : ℕ → Bool) where
  -- thread t, which is x, has ended or the test does not hold of it
  abbrev ended_at : ℕ → Thread → Bool
  ended_at t x = x.ended || not (test t)

  pub ended_each : (t : ℕ) (xs : List Thread) → ended_from test t xs ≡ true → (k : ℕ)
      → k < length xs → ((get_or xs k no_thread).ended || not (test (t + k))) ≡ true
  unfolding ended_from
  ended_each t [] e k g = absurd (omega arith)
  ended_each t (x ∷ xs) e zero g =
      ap (λ (n : ℕ). ended_at n x) (add-zero t)
      ∙ (and_true (ended_at t x) (ended_from test (suc t) xs) e).0
  ended_each t (x ∷ xs) e (suc k) g =
      let z : t + suc k ≡ suc t + k = omega arith in
      ap (λ (n : ℕ). ended_at n (get_or xs k no_thread)) z
      ∙ ended_each (suc t) xs (and_true (ended_at t x) (ended_from test (suc t) xs) e).1 k
      (omega arith)

  pub each_ended : (t : ℕ) (xs : List Thread)
      → ((k : ℕ) → k < length xs → ((get_or xs k no_thread).ended || not (test (t + k))) ≡ true)
      → ended_from test t xs ≡ true
  unfolding ended_from
  each_ended t [] h = refl
  each_ended t (x ∷ xs) h =
      and_both (ended_at t x) (ended_from test (suc t) xs)
      (ap (λ (n : ℕ). ended_at n x) (sym (add-zero t)) ∙ h 0 (omega arith))
      (each_ended (suc t) xs (λ k g. let z : suc t + k ≡ t + suc k = omega arith in
      ap (λ (n : ℕ). ended_at n (get_or xs k no_thread)) z ∙ h (suc k) (omega arith)))

-- only the threads that there are have a starter
pub no_starter : (ts : List Thread) (t : ℕ) → length ts < t → starter_of ts t ≡ 0
no_starter ts zero l = refl
no_starter ts (suc t) l =
    ap (λ (x : Thread). x.starter) (get_or-eq_default ts no_thread {n = t} (omega arith))

pub ready_computes : ReadyComputes
unfolding is_ready in_family
ready_computes ts (plain t) = (λ e. no_wait, λ r. refl)
ready_computes ts (awaiting t d) = (λ e. tries_again, λ r. refl)
ready_computes ts (waiting t u) = (λ e. all_ended (ended e), λ r. found r)
  where
    -- a member that is a thread has ended, by the test; no other number is a living thread's
    ended : ended_from (in_family ts u) 1 ts ≡ true → (x : ℕ) → Family (starter_of ts) u x
        → (nth ts x).ended ≡ true
    ended e zero h = refl
    ended e (suc k) h = go (ltb k (length ts)) refl
      where
        passed : (a b : Bool) → (a || not b) ≡ true → b ≡ true → a ≡ true
        passed true b p q = refl
        passed false true p q = absurd (true≢false (sym p))
        passed false false p q = absurd (true≢false (sym q))

        go : (b : Bool) → ltb k (length ts) ≡ b → (get_or ts k no_thread).ended ≡ true
        go true q =
            let l = ltb-true k (length ts) q in
            let z : suc k ≡ 1 + k = omega arith in
            passed (get_or ts k no_thread).ended (in_family ts u (suc k))
            (ap (λ (n : ℕ). (get_or ts k no_thread).ended || not (in_family ts u n)) z
            ∙ ended_each (in_family ts u) 1 ts e k l)
            (family_found (starter_of ts) (length ts) refl (no_starter ts) u (suc k) (omega arith) h)
        go false q =
            ap (λ (x : Thread). x.ended)
            (get_or-eq_default ts no_thread {n = k} (ltb-false k (length ts) q))

    found : Ready ts (waiting t u) → ended_from (in_family ts u) 1 ts ≡ true
    found (all_ended r) = each_ended (in_family ts u) 1 ts (λ k l. let z : 1 + k ≡ suc k = omega arith in
        ap (λ (n : ℕ). (get_or ts k no_thread).ended || not (in_family ts u n)) z ∙ go k (in_family ts u (suc k)) refl)
      where
        go : (k : ℕ) (b : Bool) → in_family ts u (suc k) ≡ b
            → ((get_or ts k no_thread).ended || not b) ≡ true
        go k true q =
            or_left _ _ (r (suc k) (found_family (starter_of ts) u (family_steps (length ts)) (suc k) q))
        go k false q = or_right (get_or ts k no_thread).ended _ refl
