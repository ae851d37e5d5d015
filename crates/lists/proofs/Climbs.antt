-- The climb from a thread to the one that began it, and on, until one is met that is in the set:
-- turn by turn of the loop, what it has found. Assumes nothing.
use mathlib.Core.Path.{◌≡◌, refl, sym, ap, subst, ◌∙◌}
use mathlib.Core.Logic.{◌⊎◌, inl, inr, ⊎_elim}
use mathlib.Core.Bool.{Bool, true, false, ◌||◌, true≢false}
use mathlib.Core.List.{List}
use Prim.Native.Nat.{ℕ, zero, suc, ◌+◌, ◌-◌, ◌*◌, ◌%◌, ◌^◌, ◌<◌}
use native.Mathlib.Omega.{arith}
use native.Mathlib.Decide.{ℕ_discrete}
use lib.Bits.{bit_or}
use lib.Dec.{ltb}
use lib.ListN.{get_or}
use borrow.Author.Tests.{lt-ltb, le-ltb, ltb-true, ltb-false}
use Rattle.basics.proofs.Ifs.{if_yes, if_no, or_true, or_left, or_right}
use Rattle.machine.specs.Waits.{Family, itself, begun}
use Rattle.machine.specs.Shapes.{IsThread}
use Rattle.machine.specs.Inner.Ranges.{thread_in_range}
use Rattle.machine.proofs.Families.{family_found, family_is, begun_by}
use Rattle.machine.proofs.AllBelow.{same_test}
use Rattle.lists.specs.Inner.Families.{starter_in, is_of_family, has_thread, lacks_thread}
use Rattle.lists.specs.Inner.Families.{HasStarters, AddsAncestors}
use Rattle.lists.proofs.ThreadSets.{lacking, not_lacking, added_in, added_other}
use Rattle.lists.proofs.ThreadSets.{added_keeps, is_thread, thread_is}

dec_thread : (t : ℕ) → Dec (IsThread t)
dec_thread t = go (thread_in_range t) refl
  where
    go : (b : Bool) → thread_in_range t ≡ b → Dec (IsThread t)
    go true q = yes (is_thread t q)
    go false q = no (λ h. true≢false (sym (thread_is t h) ∙ q))

module _ (w : List ℕ) where
  -- ---- starters in the words
  pub no_thread : starter_in w 0 ≡ 0
  unfolding starter_in
  no_thread = refl

  pub past_threads : (t : ℕ) → 64 < t → starter_in w t ≡ 0
  unfolding starter_in
  past_threads zero l = refl
  past_threads (suc k) l = if_no _ _ (le-ltb k 64 (omega arith))

  pub starter_read : (t : ℕ) → IsThread t → starter_in w t ≡ get_or w (1042 + 55 * (t - 1) + 1) 0
  unfolding starter_in
  starter_read zero h = let a = h.0 in absurd (omega arith)
  starter_read (suc k) h =
      let b = h.1 in
      let z : k ≡ suc k - 1 = omega arith in
      if_yes _ _ (lt-ltb k 64 (omega arith)) ∙ ap (λ (i : ℕ). get_or w (1042 + 55 * i + 1) 0) z

  -- a number that is no thread's has no starter, and is of no thread's family
  outside : (t : ℕ) → (IsThread t → ⊥) → starter_in w t ≡ 0
  outside t d = go (ltb 64 t) refl (ℕ_discrete t 0)
    where
      go : (b : Bool) → ltb 64 t ≡ b → Dec (t ≡ 0) → starter_in w t ≡ 0
      go b q (yes z) = ap (starter_in w) z ∙ no_thread
      go true q (no n) = past_threads t (ltb-true 64 t q)
      go false q (no n) = absurd (d (omega (arith, n), ltb-false 64 t q))

  no_family : {u t : ℕ} → IsThread u → (IsThread t → ⊥) → Family (starter_in w) u t → ⊥
  no_family h d itself = d h
  no_family {u} {t} h d (begun f) = root (outside t d) f
    where
      root : {x : ℕ} → x ≡ 0 → Family (starter_in w) u x → ⊥
      root z itself = let a = h.0 in omega arith
      root {x} z (begun g) = root (ap (starter_in w) z ∙ no_thread) g

  -- the family test in the words
  pub of_family : (u t : ℕ) → IsThread t → Family (starter_in w) u t → is_of_family w u t ≡ true
  of_family u t h f = family_found (starter_in w) 64 no_thread past_threads u t h.1 f

  pub family_of : (u t : ℕ) → is_of_family w u t ≡ true → Family (starter_in w) u t
  family_of u t e = family_is (starter_in w) 64 no_thread past_threads u t e

  -- where a member is met, all above it are members
  above : (set : ℕ) → HasStarters w set → {u t : ℕ} → IsThread u → IsThread t
      → has_thread set t ≡ true → Family (starter_in w) u t → has_thread set u ≡ true
  above set c h g e itself = e
  above set c {u} {t} h g e (begun f) =
      go (dec_thread (starter_in w t)) (λ i. above set c h i (c t g e i) f)
    where
      go : Dec (IsThread (starter_in w t)) → (IsThread (starter_in w t) → has_thread set u ≡ true)
          → has_thread set u ≡ true
      go (yes i) rec = rec i
      go (no n) rec = absurd (no_family h n f)

  -- ---- the loop: `found` has the set and what is between t and `at`
  pub record Climbing (set t found at : ℕ) : Type 0 where
    pub kept : (u : ℕ) → IsThread u → has_thread set u ≡ true → has_thread found u ≡ true
    pub only : (u : ℕ) → IsThread u → has_thread found u ≡ true
        → (has_thread set u ≡ true) ⊎ Family (starter_in w) u t
    pub here : Family (starter_in w) at t
    pub starters : (x : ℕ) → IsThread x → has_thread found x ≡ true → IsThread (starter_in w x)
        → (has_thread found (starter_in w x) ≡ true) ⊎ (starter_in w x ≡ at)
    pub all : (u : ℕ) → IsThread u → Family (starter_in w) u t
        → (has_thread found u ≡ true) ⊎ Family (starter_in w) u at

  pub climb_start : (set t : ℕ) → HasStarters w set → Climbing set t set t
  climb_start set t c =
      record {
        kept = λ u h e. e;
        only = λ u h e. inl e;
        here = itself;
        starters = λ x h e g. inl (c x h e g);
        all = λ u h f. inr f;
      }

  module _ (set t found at : ℕ) (c : Climbing set t found at) where
    module _ (q : lacks_thread found at ≡ true) where
      abbrev more : ℕ
      more = bit_or found (1 * 2 ^ (at - 1) % 2 ^ 64)

      is : IsThread at
      is = (lacking found at q).0

      pub climb_more : Climbing set t (bit_or found (1 * 2 ^ (at - 1) % 2 ^ 64))
          (get_or w (1042 + 55 * (at - 1) + 1) 0)
      climb_more =
          subst (Climbing set t more) (starter_read at is)
          (record {
            kept = λ u h e. added_keeps found at is u h (c.kept u h e);
            only = λ u h e. only_of u h e (ℕ_discrete u at);
            here = begun_by (starter_in w) c.here;
            starters = λ x h e g. starters_of x h e g (ℕ_discrete x at);
            all = λ u h f. ⊎_elim (λ e. inl (added_keeps found at is u h e)) (all_of u) (c.all u h f);
          })
        where
          only_of : (u : ℕ) → IsThread u → has_thread more u ≡ true → Dec (u ≡ at)
              → (has_thread set u ≡ true) ⊎ Family (starter_in w) u t
          only_of u h e (yes z) = inr (subst (λ (x : ℕ). Family (starter_in w) x t) (sym z) c.here)
          only_of u h e (no d) = c.only u h (sym (added_other found at is u h d) ∙ e)

          starters_of : (x : ℕ) → IsThread x → has_thread more x ≡ true → IsThread (starter_in w x)
              → Dec (x ≡ at) → (has_thread more (starter_in w x) ≡ true) ⊎ (starter_in w x ≡ starter_in w at)
          starters_of x h e g (yes z) = inr (ap (starter_in w) z)
          starters_of x h e g (no d) =
              ⊎_elim (λ m. inl (added_keeps found at is (starter_in w x) g m))
              (λ z. inl (ap (has_thread more) z ∙ added_in found at is))
              (c.starters x h (sym (added_other found at is x h d) ∙ e) g)

          all_of : (u : ℕ) → Family (starter_in w) u at
              → (has_thread more u ≡ true) ⊎ Family (starter_in w) u (starter_in w at)
          all_of u itself = inl (added_in found at is)
          all_of u (begun f) = inr f

    module _ (q : lacks_thread found at ≡ false) where
      pub climb_starters : HasStarters w found
      climb_starters x h e g =
          ⊎_elim (λ m. m) (λ z. not_lacking found (starter_in w x) (ap (lacks_thread found) z ∙ q) g)
          (c.starters x h e g)

      pub climb_end : IsThread t → AddsAncestors w set t found
      climb_end i u h = same_test _ _ there back
        where
          there : has_thread found u ≡ true → (has_thread set u || is_of_family w u t) ≡ true
          there e =
              ⊎_elim (λ m. or_left (has_thread set u) _ m)
              (λ f. or_right (has_thread set u) _ (of_family u t i f)) (c.only u h e)

          met : Family (starter_in w) u at → has_thread found u ≡ true
          met f = go (dec_thread at)
            where
              go : Dec (IsThread at) → has_thread found u ≡ true
              go (yes g) = above found climb_starters h g (not_lacking found at q g) f
              go (no n) = absurd (no_family h n f)

          back : (has_thread set u || is_of_family w u t) ≡ true → has_thread found u ≡ true
          back e =
              ⊎_elim (c.kept u h) (λ m. ⊎_elim (λ a. a) met (c.all u h (family_of u t m)))
              (or_true (has_thread set u) (is_of_family w u t) e)
