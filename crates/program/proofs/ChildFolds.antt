-- A fold over the children of a frame, and how the code makes it: over three numbers, where a step
-- at no child changes nothing. Assumes nothing.
use mathlib.Core.Path.{◌≡◌, refl, sym, ap, ◌∙◌}
use mathlib.Core.List.{List, [], ◌∷◌}
use Rattle.std.specs.Prelude.{fold}
use Prim.Native.Nat.{ℕ, ◌≤◌}
use native.Mathlib.Omega.{arith}
use Rattle.language.specs.Kinds.{Child, children}
use Rattle.language.specs.Limits.{most_lines}
use Rattle.language.specs.declared.frame.Frame.{Frame}
use Rattle.program.specs.declared.frames.Children.{Children}
use Rattle.program.specs.declared.frames.Children.TheVariants.{Nothing, One, Two, Three}
use Rattle.program.specs.Inner.Children.{list_of, children_of, no_child, child_numbers_of, over_children}
use Rattle.program.proofs.FrameLaws.{children_are}

-- what each step keeps, all of them keep
pub fold_keeps : {A : Type 0} (g : A → ℕ → A) (P : A → Type 0)
    → ((u : A) (v : ℕ) → P u → P (g u v)) → (cs : List Child) (u : A) → P u
    → P (over_children g u cs)
unfolding over_children
fold_keeps g P step [] u h = h
fold_keeps g P step (c ∷ cs) u h = fold_keeps g P step cs (g u c.at) (step u c.at h)

-- where g changes nothing at a number after every frame's, what it makes of u at the three numbers
-- that the code has is the fold
module _ {A : Type 0} (g : A → ℕ → A) (past : (u : A) (v : ℕ) → most_lines ≤ v → u ≡ g u v) where
  none : (u : A) → g u no_child ≡ u
  none u = sym (past u no_child (omega arith))

  listed : (u : A) (x : Children) → fold g u (child_numbers_of (list_of x)) ≡ over_children g u (list_of x)
  unfolding over_children
  listed u Nothing = none _ ∙ none _ ∙ none u
  listed u (One k a) = none _ ∙ none (g u a)
  listed u (Two k a l b) = none (g (g u a) b)
  listed u (Three k a l b m c) = refl

  pub children_folded : (u : A) (f : Frame)
      → fold g u (child_numbers_of (children f)) ≡ over_children g u (children f)
  children_folded u f =
      let e = children_are f (children_of f) (children_of f) refl refl in
      ap (λ (cs : List Child). fold g u (child_numbers_of cs)) (sym e) ∙ listed u (children_of f)
      ∙ ap (over_children g u) e

  -- as a loop over what `child_numbers` gave leaves it
  pub child_fold : (u s : A) (f : Frame) (n : List ℕ) → n ≡ child_numbers_of (children f)
      → s ≡ fold g u n → s ≡ over_children g u (children f)
  child_fold u s f n h w = w ∙ ap (fold g u) h ∙ children_folded u f
