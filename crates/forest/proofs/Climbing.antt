-- The code's climb from user to user. Assumes nothing.
use mathlib.Core.Path.{◌≡◌, refl, sym, ap, ◌∙◌}
use mathlib.Core.Bool.{true, false}
use mathlib.Core.List.{List}
use Prim.Native.Nat.{ℕ, zero, suc, ◌+◌, ◌-◌, ◌≤◌, ◌<◌}
use native.Mathlib.Omega.{arith}
use lib.ListN.{get_or}
use Rattle.language.specs.Limits.{most_depth, most_lines}
use Rattle.forest.specs.Inner.Climbs.{climbs, UsersInside}

-- ---- one step
pub climbs_stop : (u : List ℕ) (n j : ℕ) → get_or u j 0 ≡ 0 → climbs u (suc n) j ≡ false
unfolding climbs
climbs_stop u n j e = ap (λ (x : ℕ). elim x [ zero ↦ false | suc i ↦ climbs u n i ]) e

pub climbs_on : (u : List ℕ) (n j i : ℕ) → get_or u j 0 ≡ suc i → climbs u (suc n) j ≡ climbs u n i
unfolding climbs
climbs_on u n j i e = ap (λ (x : ℕ). elim x [ zero ↦ false | suc i ↦ climbs u n i ]) e

-- ---- the loop: after `above` steps, at the frame `at`, what is left to climb is as from the start
abbrev pub Climbing : List ℕ → ℕ → ℕ → ℕ → Type 0
Climbing u j at above = climbs u (suc most_depth - above) at ≡ climbs u (suc most_depth) j

module _ (u : List ℕ) (j at above : ℕ) where
  pub climb_stop : get_or u at 0 ≡ 0 → Climbing u j at above → above < suc most_depth
      → false ≡ climbs u (suc most_depth) j
  climb_stop e g l =
      let s : suc most_depth - above ≡ suc (most_depth - above) = omega arith in
      sym (climbs_stop u (most_depth - above) at e)
      ∙ ap (λ (n : ℕ). climbs u n at) (sym s) ∙ g

  -- i is the user's number, as the code has it
  pub climb_next : (i : ℕ) → i ≡ get_or u at 0 - 1 → (get_or u at 0 ≡ 0 → ⊥)
      → Climbing u j at above → above < suc most_depth → Climbing u j i (above + 1)
  climb_next i e d g l =
      let s : suc most_depth - above ≡ suc (most_depth - above) = omega arith in
      let t : suc most_depth - (above + 1) ≡ most_depth - above = omega arith in
      let k : get_or u at 0 ≡ suc i = omega (arith, d, e) in
      ap (λ (n : ℕ). climbs u n i) t
      ∙ sym (climbs_on u (most_depth - above) at i k)
      ∙ ap (λ (n : ℕ). climbs u n at) (sym s) ∙ g

  pub climb_inside : (i : ℕ) → i ≡ get_or u at 0 - 1 → UsersInside u → (get_or u at 0 ≡ 0 → ⊥)
      → at < most_lines → i < most_lines
  climb_inside i e h d l = let a = h at l in omega (arith, d, e)

  pub climb_end : Climbing u j at above → suc most_depth ≤ above → true ≡ climbs u (suc most_depth) j
  climb_end g l =
      let s : suc most_depth - above ≡ 0 = omega arith in
      end ∙ ap (λ (n : ℕ). climbs u n at) (sym s) ∙ g
    where
      end : true ≡ climbs u 0 at
      end = unfold climbs in refl

pub ruleset climb_laws = (climb_stop, climb_next, climb_inside, climb_end)
