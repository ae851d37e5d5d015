-- A loop over a frame's children's numbers, of which each turn steps on by g: what it holds, and
-- what it leaves. Assumes nothing.
use Rattle.std.specs.Prelude.{fold}
use mathlib.Core.Path.{◌≡◌, sym, ap, ◌∙◌}
use mathlib.Core.List.{List}
use Prim.Native.Nat.{ℕ, suc, ◌+◌, ◌≤◌, ◌<◌}
use native.Mathlib.Omega.{arith}
use lib.ListN.{get_or, length, drop, drop_of_length-le}
use lib.Seq.{drop-cons}

module _ {A : Type 0} (g : A → ℕ → A) (u t : A) (vs : List ℕ) (three : length vs ≡ 3) (k : ℕ)
    (h : fold g t (drop k vs) ≡ fold g u vs) where
  -- s is what the turn made of t
  pub children_next : (s : A) → s ≡ g t (get_or vs k 0) → k < 3
      → fold g s (drop (k + 1) vs) ≡ fold g u vs
  children_next s e l =
      let z : k + 1 ≡ suc k = omega arith in
      rw (z, e) (sym (ap (fold g t) (drop-cons vs k 0 (omega (arith, three)))) ∙ h)

  pub children_end : 3 ≤ k → t ≡ fold g u vs
  children_end l = sym (ap (fold g t) (drop_of_length-le vs (omega (arith, three)))) ∙ h
