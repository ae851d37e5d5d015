-- Whether one of a frame's children passes a test: as the code asks them, one after the other.
-- Assumes nothing.
use mathlib.Core.Path.{◌≡◌, refl, sym, ap, ◌∙◌}
use mathlib.Core.Bool.{Bool, true, false, ◌||◌}
use mathlib.Core.List.{List, [], ◌∷◌}
use Prim.Native.Nat.{ℕ}
use lib.Dec.{leb}
use Rattle.basics.specs.Members.{any}
use Rattle.basics.proofs.Ifs.{or_off}
use Rattle.language.specs.Kinds.{Child, child, children}
use Rattle.language.specs.declared.kind.Class.{Class}
use Rattle.language.specs.declared.frame.Frame.{Frame}
use Rattle.program.specs.declared.frames.Children.{Children}
use Rattle.program.specs.declared.frames.Children.TheVariants.{Nothing, One, Two, Three}
use Rattle.program.specs.Inner.Children.{children_of}
use Rattle.program.proofs.FrameLaws.{children_are}
use Rattle.drawing.specs.Inner.Finds.{wrong_class}
use Rattle.forest.specs.Inner.FrameTests.{has_child_from, has_wrong_child}

or_or : (a b c : Bool) → (a || (b || c)) ≡ (a || b || c)
or_or true b c = refl
or_or false b c = refl

-- ---- any test
module _ (test : Child → Bool) where
  any_none : any test [] ≡ false
  any_none = unfold any in refl

  any_more : (c : Child) (cs : List Child) → any test (c ∷ cs) ≡ (test c || any test cs)
  unfolding any
  any_more c cs = go (test c)
    where
      go : (b : Bool) → elim b [ true ↦ true | false ↦ any test cs ] ≡ (b || any test cs)
      go true = refl
      go false = refl

  any_one : (c : Child) → any test (c ∷ []) ≡ test c
  any_one c = any_more c [] ∙ ap (λ (b : Bool). test c || b) any_none ∙ sym (or_off (test c))

  any_two : (c d : Child) → any test (c ∷ d ∷ []) ≡ (test c || test d)
  any_two c d = any_more c (d ∷ []) ∙ ap (λ (b : Bool). test c || b) (any_one d)

  any_three : (c d e : Child) → any test (c ∷ d ∷ e ∷ []) ≡ (test c || test d || test e)
  any_three c d e =
      any_more c (d ∷ e ∷ []) ∙ ap (λ (b : Bool). test c || b) (any_two d e)
      ∙ or_or (test c) (test d) (test e)

  module _ (f : Frame) (x : Children) (h : x ≡ children_of f) where
    none_passes : x ≡ Nothing → any test (children f) ≡ false
    none_passes e = ap (any test) (sym (children_are f x Nothing h e)) ∙ any_none

    module _ (k : Class) (a : ℕ) where
      one_passes : x ≡ One k a → any test (children f) ≡ test (child k a)
      one_passes e = ap (any test) (sym (children_are f x (One k a) h e)) ∙ any_one (child k a)

      module _ (l : Class) (b : ℕ) where
        two_pass : x ≡ Two k a l b
            → any test (children f) ≡ (test (child k a) || test (child l b))
        two_pass e =
            ap (any test) (sym (children_are f x (Two k a l b) h e))
            ∙ any_two (child k a) (child l b)

        three_pass : (m : Class) (c : ℕ) → x ≡ Three k a l b m c
            → any test (children f) ≡ (test (child k a) || test (child l b) || test (child m c))
        three_pass m c e =
            ap (any test) (sym (children_are f x (Three k a l b m c) h e))
            ∙ any_three (child k a) (child l b) (child m c)

-- ---- a number from n on
abbrev from_on : ℕ → Child → Bool
from_on n c = leb n c.at

module _ (n : ℕ) (f : Frame) (x : Children) (h : x ≡ children_of f) where
  pub none_from : x ≡ Nothing → has_child_from n f ≡ false
  unfolding has_child_from
  none_from e = none_passes (from_on n) f x h e

  module _ (k : Class) (a : ℕ) where
    pub one_from : x ≡ One k a → has_child_from n f ≡ leb n a
    unfolding has_child_from
    one_from e = one_passes (from_on n) f x h k a e

    module _ (l : Class) (b : ℕ) where
      pub two_from : x ≡ Two k a l b → has_child_from n f ≡ (leb n a || leb n b)
      unfolding has_child_from
      two_from e = two_pass (from_on n) f x h k a l b e

      pub three_from : (m : Class) (c : ℕ) → x ≡ Three k a l b m c
          → has_child_from n f ≡ (leb n a || leb n b || leb n c)
      unfolding has_child_from
      three_from m c e = three_pass (from_on n) f x h k a l b m c e

pub ruleset from_laws = (none_from, one_from, two_from, three_from)

-- ---- a child of a wrong class
module _ (fs : List Frame) (f : Frame) (x : Children) (h : x ≡ children_of f) where
  pub none_wrong : x ≡ Nothing → has_wrong_child fs f ≡ false
  unfolding has_wrong_child
  none_wrong e = none_passes (wrong_class fs) f x h e

  module _ (k : Class) (a : ℕ) where
    pub one_wrong : x ≡ One k a → has_wrong_child fs f ≡ wrong_class fs (child k a)
    unfolding has_wrong_child
    one_wrong e = one_passes (wrong_class fs) f x h k a e

    module _ (l : Class) (b : ℕ) where
      pub two_wrong : x ≡ Two k a l b
          → has_wrong_child fs f ≡ (wrong_class fs (child k a) || wrong_class fs (child l b))
      unfolding has_wrong_child
      two_wrong e = two_pass (wrong_class fs) f x h k a l b e

      pub three_wrong : (m : Class) (c : ℕ) → x ≡ Three k a l b m c
          → has_wrong_child fs f
          ≡ (wrong_class fs (child k a) || wrong_class fs (child l b)
          || wrong_class fs (child m c))
      unfolding has_wrong_child
      three_wrong m c e = three_pass (wrong_class fs) f x h k a l b m c e

pub ruleset wrong_laws = (none_wrong, one_wrong, two_wrong, three_wrong)
