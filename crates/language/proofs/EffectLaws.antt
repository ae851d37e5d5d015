-- What `with_member`, `set_within` and `Effect::within` compute, return by return, with the tests
-- that lead there as premises; what that means for the sets is in Members. Assumes nothing.
use mathlib.Core.Path.{◌≡◌, refl, sym, ap, ◌∙◌}
use mathlib.Core.Bool.{Bool, true, false}
use mathlib.Core.List.{List}
use Prim.Native.Nat.{ℕ, ◌-◌, ◌*◌, ◌%◌, ◌^◌, ◌<◌}
use native.Mathlib.Nat.{mod-eq_of_lt, one-mul}
use native.Mathlib.Omega.{arith}
use lib.Pow.{pow-lt}
use lib.Dec.{eqb}
use lib.Bits.{bit_or, or_zero_l, or_zero_r}
use borrow.Author.Tests.{eq-eqb, ne_eqb}
use Rattle.basics.proofs.Ifs.{yes, no, if_no}
use Rattle.language.specs.Places.{is_scheduler}
use Rattle.language.specs.Effects.{only, with_member, with_owner, with_event}
use Rattle.language.specs.Effects.{set_from, subset}
use Rattle.language.specs.Inner.Labels.{same_label, group_in}
use Rattle.language.specs.declared.effect.Effect.{Effect}
use Rattle.language.proofs.PlaceLaws.{test_bounds}

-- the effect of those sets
abbrev sets : ℕ → ℕ → Effect
sets c e = record { cells = c; events = e }

-- a scheduler's bit as the machine shifts it
pub bit_small : (p : ℕ) → is_scheduler p ≡ true → p - 2 < 8
bit_small p h = let (a, b) = test_bounds 2 p h in omega arith

pub bit_is : (p : ℕ) → is_scheduler p ≡ true → 1 * 2 ^ (p - 2) % 256 ≡ only p
bit_is p h = rw one-mul (mod-eq_of_lt (pow-lt {j = 8} (bit_small p h)))

-- ---- with one owner added: it is a scheduler, or not
module _ (o s : ℕ) (b : Bool) (t : b ≡ is_scheduler o) where
  pub owner_other : b ≡ false → s ≡ with_member o s
  unfolding with_member
  owner_other h = no _ (sym t ∙ h) refl

  pub owner_added : (n : ℕ) → b ≡ true → n ≡ only o → bit_or s n ≡ with_member o s
  unfolding with_member
  owner_added n h k = yes _ (sym t ∙ h) (ap (bit_or s) k)

-- the effect with the changed set s
pub owner_joins : (o s : ℕ) (e : Effect) → s ≡ with_member o e.cells
    → sets s e.events ≡ with_owner o e
owner_joins o s e h = ap (λ (x : ℕ). sets x e.events) h

pub event_joins : (o s : ℕ) (e : Effect) → s ≡ with_member o e.events
    → sets e.cells s ≡ with_event o e
event_joins o s e h = ap (sets e.cells) h

-- ---- a set within a group: b is whether the place is a scheduler
pub group_empty : (p s : ℕ) (labels : List ℕ) → s ≡ 0 → eqb s 0 ≡ subset s (group_in labels p)
group_empty p s labels h =
    eq-eqb s 0 h ∙ sym (eq-eqb _ _ (ap (λ (n : ℕ). bit_or n (group_in labels p)) h ∙ or_zero_l (group_in labels p)))

module _ (p s : ℕ) (labels : List ℕ) (b : Bool) (t : b ≡ is_scheduler p) where
  pub group_private : (s ≡ 0 → ⊥) → b ≡ false → b ≡ subset s (group_in labels p)
  unfolding group_in
  group_private some h =
      let g : group_in labels p ≡ 0 = if_no _ _ (sym t ∙ h) in
      h ∙ sym (ap (subset s) g ∙ ne_eqb _ _ (λ z. some (sym (or_zero_r s) ∙ z)))

  pub group_one : (x : Bool) (g : ℕ) → b ≡ true → g ≡ set_from (same_label labels p) 2 8
      → x ≡ subset s g → x ≡ subset s (group_in labels p)
  unfolding group_in
  group_one x g h k e = e ∙ ap (subset s) (yes _ (sym t ∙ h) k)

pub ruleset group_laws = (group_empty, group_private, group_one)
