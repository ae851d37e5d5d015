-- The computed frames are the lowest with a fault of the trees and the lowest with a fault of the
-- shape. Assumes nothing.
use mathlib.Core.Path.{◌≡◌, refl, sym, ap, ◌∙◌}
use mathlib.Core.Logic.{⊎_elim}
use mathlib.Core.Bool.{Bool, true, false, not, ◌&&◌, true≢false}
use mathlib.Core.List.{List}
use Prim.Native.Nat.{ℕ, suc, ◌+◌, ◌-◌, ◌≤◌, ◌<◌}
use native.Mathlib.Omega.{arith}
use lib.Dec.{eqb, leb}
use lib.ListN.{length, drop, length-drop}
use lib.Seq.{get_or-drop}
use borrow.Author.Tests.{eq-eqb, ne_eqb, eqb-true, eqb-false, leb-true, le-leb}
use borrow.Author.Tests.{not-true}
use Rattle.basics.specs.Members.{any}
use Rattle.basics.proofs.Ifs.{and_true, and_both, or_true, or_left, or_right}
use Rattle.language.specs.Kinds.{is_module, class_of, Child, children}
use Rattle.language.specs.declared.kind.Class.{Class}
use Rattle.language.specs.declared.frame.Frame.{Frame}
use Rattle.program.specs.Trees.{no_frame, frame_at}
use Rattle.layout.specs.Order.{has_child, has_class}
use Rattle.layout.specs.Uses.{used}
use Rattle.program.specs.Inner.Children.{same_class}
use Rattle.layout.proofs.Searches.{Lowest, same_low, lowest_all, any_none, any_false}
use Rattle.drawing.specs.TreeFaults.{TreeFault, ShapeFault}
use Rattle.drawing.specs.Inner.Finds.{is_tree_fault, tree_fault_at, is_module_frame, is_shape_fault}
use Rattle.drawing.specs.Inner.Finds.{shape_fault_at}
use Rattle.drawing.proofs.Cycles.{in_any, any_in, is_below_lem}
use Rattle.drawing.proofs.Cycles.{below_is}

-- ---- 21
tree_test : (fs : List Frame) (j : ℕ) → j < length fs → is_tree_fault fs j (frame_at fs j) ≡ true
    → TreeFault fs j
unfolding is_tree_fault
tree_test fs j l h = ⊎_elim
    (λ e. (let m = in_any _ (children (frame_at fs j)) e in TreeFault.missing l m.among (leb-true _ _ m.passes)))
    (λ g. ⊎_elim (λ e. TreeFault.twice l (leb-true 2 (used j fs) e)) (λ e. TreeFault.cycle l (is_below_lem fs j j e)) (or_true (leb 2 (used j fs)) _ g))
    (or_true (any (λ (c : Child). leb (length fs) c.at) (children (frame_at fs j))) _ h)

tree_is : (fs : List Frame) {j : ℕ} → TreeFault fs j
    → (j < length fs) × (is_tree_fault fs j (frame_at fs j) ≡ true)
unfolding is_tree_fault
tree_is fs (TreeFault.missing l m h) =
    (l, or_left _ _ (any_in (λ (c : Child). leb (length fs) c.at) m (le-leb _ _ h)))
tree_is fs (TreeFault.twice {j = j} l h) =
    (l, or_right (any _ (children (frame_at fs j))) _ (or_left _ _ (le-leb 2 (used j fs) h)))
tree_is fs (TreeFault.cycle {j = j} l b) =
    (l, or_right (any _ (children (frame_at fs j))) _ (or_right (leb 2 (used j fs)) _ (below_is fs j j l b)))

pub tree_low : (fs : List Frame) → Lowest (TreeFault fs) (tree_fault_at fs)
unfolding tree_fault_at
tree_low fs =
    same_low (λ j h. tree_test fs j h.0 h.1) (λ j t. tree_is fs t) (lowest_all no_frame (is_tree_fault fs) fs)

-- ---- 6
pub class_same : (a b : Class) → same_class a b ≡ true → a ≡ b
class_same Class.Statement Class.Statement h = refl
class_same Class.Statement Class.Expression h = absurd (true≢false (sym h))
class_same Class.Statement Class.Neither h = absurd (true≢false (sym h))
class_same Class.Expression Class.Statement h = absurd (true≢false (sym h))
class_same Class.Expression Class.Expression h = refl
class_same Class.Expression Class.Neither h = absurd (true≢false (sym h))
class_same Class.Neither Class.Statement h = absurd (true≢false (sym h))
class_same Class.Neither Class.Expression h = absurd (true≢false (sym h))
class_same Class.Neither Class.Neither h = refl

pub class_refl : (a : Class) → same_class a a ≡ true
class_refl Class.Statement = refl
class_refl Class.Expression = refl
class_refl Class.Neither = refl

class_differs : (a b : Class) → (a ≡ b → ⊥) → not (same_class a b) ≡ true
class_differs a b h = go (same_class a b) refl
  where
    go : (x : Bool) → same_class a b ≡ x → not x ≡ true
    go true e = absurd (h (class_same a b e))
    go false e = refl

class_not : (a b : Class) → not (same_class a b) ≡ true → a ≡ b → ⊥
class_not a b h e = true≢false (sym h ∙ ap not (ap (same_class a) (sym e) ∙ class_refl a))

-- no module among the frames from n on
none_from : (fs : List Frame) (n : ℕ) → any is_module_frame (drop n fs) ≡ false → (k : ℕ) → n ≤ k
    → k < length fs → is_module (frame_at fs k).kind ≡ false
none_from fs n h k a b =
    let e : n + (k - n) ≡ k = omega arith in
    let l = length-drop n fs in
    let g = any_false no_frame is_module_frame (drop n fs) h (k - n) (omega arith) in
    ap (λ (f : Frame). is_module f.kind) (ap (frame_at fs) (sym e) ∙ sym (get_or-drop n fs (k - n) no_frame)) ∙ g

from_none : (fs : List Frame) (n : ℕ)
    → ((k : ℕ) → n ≤ k → k < length fs → is_module (frame_at fs k).kind ≡ false)
    → any is_module_frame (drop n fs) ≡ false
from_none fs n h =
    any_none no_frame is_module_frame (drop n fs) (λ q l. (let m = length-drop n fs in ap is_module_frame (get_or-drop n fs q no_frame) ∙ h (n + q) (omega arith) (omega arith)))

abbrev C6 : List Frame → Frame → Bool
C6 fs f =
    any (λ (c : Child). not (same_class (class_of (frame_at fs c.at).kind) c.class)) (children f)

abbrev L6 : List Frame → ℕ → Frame → Bool
L6 fs i f = has_class (class_of f.kind) && not (any (has_child i) fs)

abbrev M6 : List Frame → ℕ → Frame → Bool
M6 fs i f = is_module f.kind && not (any is_module_frame (drop (suc i) fs)) && not (eqb f.s 0)

shape_test : (fs : List Frame) (j : ℕ) → j < length fs → is_shape_fault fs j (frame_at fs j) ≡ true
    → ShapeFault fs j
unfolding is_shape_fault
shape_test fs j l h =
    ⊎_elim class_case (λ g. ⊎_elim left_case (λ k. ⊎_elim main_case none_case (or_true (M6 fs j (frame_at fs j)) _ k)) (or_true (L6 fs j (frame_at fs j)) _ g)) (or_true (C6 fs (frame_at fs j)) _ h)
  where
    class_case : C6 fs (frame_at fs j) ≡ true → ShapeFault fs j
    class_case e =
        let m = in_any _ (children (frame_at fs j)) e in
        ShapeFault.class l m.among (class_not _ _ m.passes)

    left_case : L6 fs j (frame_at fs j) ≡ true → ShapeFault fs j
    left_case e =
        let a = and_true _ _ e in
        ShapeFault.leftover l a.0 (λ i k. any_false no_frame (has_child j) fs (not-true _ a.1) i k)

    main_case : M6 fs j (frame_at fs j) ≡ true → ShapeFault fs j
    main_case e =
        let a = and_true _ _ e in
        let b = and_true _ _ a.0 in
        ShapeFault.main l b.0 (λ k p q. none_from fs (suc j) (not-true _ b.1) k p q) (eqb-false (frame_at fs j).s 0 (not-true _ a.1))

    none_case : (eqb (suc j) (length fs) && not (any is_module_frame fs)) ≡ true → ShapeFault fs j
    none_case e =
        let a = and_true _ _ e in
        ShapeFault.no_module (eqb-true _ _ a.0) (λ k q. any_false no_frame is_module_frame fs (not-true _ a.1) k q)

shape_is : (fs : List Frame) {j : ℕ} → ShapeFault fs j
    → (j < length fs) × (is_shape_fault fs j (frame_at fs j) ≡ true)
unfolding is_shape_fault
shape_is fs (ShapeFault.class {i = i} {c = c} l m h) =
    (l, or_left _ _ (any_in (λ (c : Child). not (same_class (class_of (frame_at fs c.at).kind) c.class)) m (class_differs _ _ h)))
shape_is fs (ShapeFault.leftover {j = j} l k h) =
    (l, or_right (C6 fs (frame_at fs j)) _ (or_left _ _ (and_both _ _ k (ap not (any_none no_frame (has_child j) fs h)))))
shape_is fs (ShapeFault.main {j = j} l k h s) =
    (l, or_right (C6 fs (frame_at fs j)) _ (or_right (L6 fs j (frame_at fs j)) _ (or_left _ _ (and_both _ _ (and_both _ _ k (ap not (from_none fs (suc j) h))) (ap not (ne_eqb (frame_at fs j).s 0 s))))))
shape_is fs (ShapeFault.no_module {j = j} e h) =
    (omega arith, or_right (C6 fs (frame_at fs j)) _ (or_right (L6 fs j (frame_at fs j)) _ (or_right (M6 fs j (frame_at fs j)) _ (and_both _ _ (eq-eqb _ _ e) (ap not (any_none no_frame is_module_frame fs h))))))

pub shape_low : (fs : List Frame) → Lowest (ShapeFault fs) (shape_fault_at fs)
unfolding shape_fault_at
shape_low fs =
    same_low (λ j h. shape_test fs j h.0 h.1) (λ j t. shape_is fs t) (lowest_all no_frame (is_shape_fault fs) fs)
