-- The tests that the code makes of each frame. No reader has to believe it: proofs/ ties them to
-- `is_tree_fault` and `is_shape_fault`. Assumes nothing: definitions.
use Rattle.std.specs.Prelude.{Bool, not, ◌&&◌, ◌||◌, List, ℕ, suc, eqb, leb, length, drop}
use Rattle.basics.specs.Members.{any}
use Rattle.language.specs.Kinds.{is_module, class_of, Child, children}
use Rattle.language.specs.declared.frame.Frame.{Frame}
use Rattle.layout.specs.Order.{has_child, has_class}
use Rattle.layout.specs.Uses.{used}
use Rattle.drawing.specs.Inner.Finds.{is_below, is_module_frame, wrong_class}

-- ---- 21, in two halves
-- f names a child from frame n on: where there are n frames, one that there is not
unfoldable pub has_child_from : ℕ → Frame → Bool
has_child_from n f = any (λ (c : Child). leb n c.at) (children f)

-- frame i, f, names a child that there is not, or is used twice
unfoldable pub is_use_fault : List Frame → ℕ → Frame → Bool
is_use_fault fs i f = has_child_from (length fs) f || leb 2 (used i fs)

-- frame i is on a cycle
abbrev pub is_cycle_fault : List Frame → ℕ → Frame → Bool
is_cycle_fault fs i f = is_below fs i i

-- ---- 6, in two halves
unfoldable pub has_wrong_child : List Frame → Frame → Bool
has_wrong_child fs f = any (wrong_class fs) (children f)

-- frame i, f, has a child of a wrong class or is left over
unfoldable pub has_class_fault : List Frame → ℕ → Frame → Bool
has_class_fault fs i f =
    has_wrong_child fs f || (has_class (class_of f.kind) && not (any (has_child i) fs))

-- frame i, f, is the last module and has parameters; or it is the last frame and there is no module
unfoldable pub is_main_fault : List Frame → ℕ → Frame → Bool
is_main_fault fs i f =
    (is_module f.kind && not (any is_module_frame (drop (suc i) fs)) && not (eqb f.s 0))
    || (eqb (suc i) (length fs) && not (any is_module_frame fs))
