-- The first fault of the layout, as functions that compute; proofs/Layouts shows that they find it.
-- Assumes nothing: definitions.
use Rattle.std.specs.Prelude.{Bool, true, false, not, ◌&&◌, List, [], ◌∷◌, reverse, ℕ, zero, suc, ◌-◌, ◌<◌, ◌≤◌, max, ltb, eqb, length, get_or, take}
use Rattle.std.specs.Prelude.{Option, Some, None}
use Rattle.basics.specs.If.{when◌then◌else◌}
use Rattle.basics.specs.Members.{any}
use Rattle.basics.specs.Inner.Searches.{lowest, earlier}
use Rattle.language.specs.Kinds.{declaration_rank, file_rank, is_module, class_of, Child, children}
use Rattle.language.specs.declared.kind.Kind.{Kind}
use Rattle.language.specs.declared.kind.Kind.TheVariants.{Header, Declared, Module, Statement}
use Rattle.language.specs.declared.kind.Kind.TheVariants.{Expression, Unknown}
use Rattle.language.specs.declared.kind.Class.{Class}
use Rattle.language.specs.declared.frame.Frame.{Frame}
use Rattle.language.specs.declared.refusal.Rule.TheVariants.{WrongHeader, WrongField}
use Rattle.language.specs.declared.refusal.Rule.TheVariants.{WrongOrder, TooDeep}
use Rattle.language.specs.Limits.{most_lines, most_depth}
use Rattle.program.specs.Trees.{frame_at}
use Rattle.program.specs.Inner.Children.{same_class}
use Rattle.fields.specs.Inner.Scans.{header_fault, field_fault, refused_at, then_try}
use Rattle.layout.specs.Verdicts.{LayoutVerdict}
use Rattle.layout.specs.Order.{has_child, has_class, is_main}

-- what a caller has to show: there is a line, and no more than a file may have
abbrev pub LineWords : List ℕ → Type 0
LineWords words = (0 < length words) × (length words ≤ most_lines)

-- ---- 6, 'order, a child of the wrong class': one pass, which stops at the first frame without a
-- tree

-- what is known of a frame that was passed: its class, and the first frame of its tree
pub record Passed : Type 0 where
  pub class : Class
  pub first : ℕ

abbrev pub passed : Class → ℕ → Passed
passed k n = record { class = k; first = n }

-- where the row of children begins that ends just before `stop`, the children from the last to the
-- first; ps are the i frames passed, from the last to the first
unfoldable pub row_first : List Passed → ℕ → ℕ → List Child → Option ℕ
row_first ps i stop [] = Some stop
row_first ps i stop (c ∷ cs) =
    let p : Passed = get_or ps (i - suc c.at) (passed Class.Neither 0) in
    elim (eqb (suc c.at) stop && same_class p.class c.class) [ true ↦ row_first ps i p.first cs | false ↦ None ]

-- the lowest frame that is no tree's root; the list stands from i on
unfoldable pub first_disorder : List Passed → ℕ → List Frame → Option ℕ
first_disorder ps i [] = None
first_disorder ps i (f ∷ fs) =
    elim (row_first ps i i (reverse (children f))) [
      | None ↦ Some i
      | Some first ↦ first_disorder (passed (class_of f.kind) first ∷ ps) (suc i) fs
    ]

-- the highest rank among the frames; 0 where there is none
unfoldable pub highest_rank : List Frame → ℕ
highest_rank [] = 0
highest_rank (f ∷ fs) = max (file_rank f.kind) (highest_rank fs)

-- a declaration after a frame of a rank that comes later: n is the highest rank before it
abbrev pub is_late : Kind → ℕ → Bool
is_late Header n = false
is_late (Declared d) n = ltb (declaration_rank d) n
is_late Module n = false
is_late (Statement k) n = false
is_late (Expression k) n = false
is_late Unknown n = false

unfoldable pub is_misplaced : List Frame → ℕ → Frame → Bool
is_misplaced fs i f = is_late f.kind (highest_rank (take i fs))

-- a leftover frame: the later frames, `rest`, are asked first, since in a good file one of them has
-- it as a child
unfoldable pub is_leftover : List Frame → ℕ → Frame → List Frame → Bool
is_leftover fs i f rest =
    elim (has_class (class_of f.kind)) [
      | true ↦ elim (any (has_child i) rest) [ true ↦ false | false ↦ not (any (has_child i) fs) ]
      | false ↦ false
    ]

-- the lowest leftover frame; the list stands from i on
unfoldable pub first_leftover : List Frame → ℕ → List Frame → Option ℕ
first_leftover fs i [] = None
first_leftover fs i (f ∷ rest) =
    elim (is_leftover fs i f rest) [ true ↦ Some i | false ↦ first_leftover fs (suc i) rest ]

-- the last frame, if it is not main
unfoldable pub no_main : List Frame → Option ℕ
no_main fs = when is_main (frame_at fs (length fs - 1)) then None else Some (length fs - 1)

-- the lowest frame with a fault 6
unfoldable pub order_fault : List Frame → Option ℕ
order_fault fs =
    earlier (first_disorder [] 0 fs)
    (earlier (lowest (λ (i : ℕ) (f : Frame). is_misplaced fs i f) 0 fs)
    (earlier (first_leftover fs 0 fs) (no_main fs)))

-- ---- 7
-- the lowest frame that is found below one of the children
unfoldable pub lowest_child : (ℕ → Option ℕ) → List Child → Option ℕ
lowest_child find [] = None
lowest_child find (c ∷ cs) = earlier (find c.at) (lowest_child find cs)

-- the lowest frame too deep in the tree whose root is frame i, at the depth d; n bounds how far it
-- goes down
unfoldable pub deep_to : ℕ → List Frame → ℕ → ℕ → Option ℕ
deep_to zero fs d i = None
deep_to (suc n) fs d i =
    earlier (lowest_child (λ c. deep_to n fs (suc d) c) (children (frame_at fs i)))
    (when ltb most_depth d then Some i else None)

-- in the body of f, if f is a module: a child's number is below its parent's, so that bound is
-- enough
abbrev pub deep_in : List Frame → Frame → Option ℕ
deep_in fs f = elim (is_module f.kind) [ true ↦ deep_to (suc f.a) fs 1 f.a | false ↦ None ]

-- in the bodies of the modules among the frames
unfoldable pub first_deep : List Frame → List Frame → Option ℕ
first_deep fs [] = None
first_deep fs (f ∷ rest) = earlier (deep_in fs f) (first_deep fs rest)

-- the lowest frame with the fault 7
unfoldable pub depth_fault : List Frame → Option ℕ
depth_fault fs = first_deep fs fs

-- ---- 4 to 7
-- 'Over the whole file, smallest number first, then lowest frame'
unfoldable pub layout_of : List Frame → LayoutVerdict
layout_of fs =
    then_try (refused_at WrongHeader (header_fault fs)) λ _.
    then_try (refused_at WrongField (field_fault fs)) λ _.
    then_try (refused_at WrongOrder (order_fault fs)) λ _.
    refused_at TooDeep (depth_fault fs)
