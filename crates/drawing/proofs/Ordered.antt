-- A file without fault, already in order, is one that the writer writes: it has no fault of the
-- trees and none of the shape. Assumes nothing.
use mathlib.Core.Path.{◌≡◌, refl, sym, ap, subst, ◌∙◌}
use mathlib.Core.Bool.{Bool, true, false, true≢false}
use mathlib.Core.List.{List, [], ◌∷◌}
use Prim.Native.Nat.{ℕ, suc, ◌+◌, ◌-◌, ◌≤◌, ◌<◌}
use native.Mathlib.Omega.{arith}
use native.Mathlib.Decide.{ℕ_discrete}
use lib.Dec.{eqb}
use lib.ListN.{length}
use borrow.Author.Tests.{eqb-true}
use Rattle.basics.specs.If.{when◌then◌else◌}
use Rattle.basics.specs.Members.{In}
use Rattle.basics.proofs.Ifs.{if_yes, if_no}
use Rattle.language.specs.declared.refusal.Rule.TheVariants.{TooDeep, WrongOrder}
use Rattle.language.specs.Kinds.{is_module, class_of, Child, children}
use Rattle.language.specs.declared.frame.Frame.{Frame}
use Rattle.program.specs.Trees.{frame_at}
use Rattle.layout.specs.Order.{Tree, Row, has_child, has_class}
use Rattle.layout.specs.Uses.{times, used}
use Rattle.layout.specs.Faults.{Fault, NoFault}
use Rattle.layout.proofs.Order.{all_trees}
use Rattle.layout.proofs.Scopes.{child_below, main_last}
use Rattle.layout.proofs.Users.{row_from, among_children, one_user}
use Rattle.drawing.specs.TreeFaults.{Below, TreeFault, ShapeFault}
use Rattle.drawing.specs.Writings.{Writable}
use Rattle.drawing.proofs.Fields.{all_classed, all_in}
use Rattle.drawing.proofs.Cycles.{only_frames, has_child_lem}
use Rattle.drawing.proofs.Counted.{times_none, used_none}

-- ---- a row of children names no frame twice, and each is of its class
row_right : {fs : List Frame} {lo stop : ℕ} {cs : List Child} {c : Child} → Row fs lo stop cs
    → In c cs → class_of (frame_at fs c.at).kind ≡ c.class
row_right (Row.more t e r) In.first = e
row_right (Row.more t e r) (In.later m) = row_right r m
row_right {fs = fs} {c = c} (Rattle.layout.specs.Order.none {stop = stop}) x5 = elim x5 [ ]

tree_right : {fs : List Frame} {lo i : ℕ} {c : Child} → Tree fs lo i
    → In c (children (frame_at fs i)) → class_of (frame_at fs c.at).kind ≡ c.class
tree_right (Tree.root r) m = row_right r m

row_once : {fs : List Frame} {lo stop : ℕ} {cs : List Child} (j : ℕ) → Row fs lo stop cs
    → times j cs ≤ 1
unfolding times
row_once j Row.none = omega arith
row_once j (Row.more {c = c} {cs = cs} t e r) = go (eqb c.at j) refl (row_once j r)
  where
    go : (b : Bool) → eqb c.at j ≡ b → times j cs ≤ 1
        → (when eqb c.at j then 1 else 0) + times j cs ≤ 1
    go true q h =
        let a = if_yes {A = ℕ} 1 0 q in
        let y = eqb-true c.at j q in
        let z = times_none j cs (λ d m x. (let w = row_from r m in omega arith)) in
        omega arith
    go false q h = let a = if_no {A = ℕ} 1 0 q in omega arith

tree_once : {fs : List Frame} {lo i : ℕ} (j : ℕ) → Tree fs lo i
    → times j (children (frame_at fs i)) ≤ 1
tree_once j (Tree.root r) = row_once j r

-- a frame that one frame alone has as a child, once, is used once
used_once : (j : ℕ) (fs : List Frame)
    → ((i k : ℕ) (c d : Child) → i < length fs → k < length fs → In c (children (frame_at fs i)) → In d (children (frame_at fs k)) → c.at ≡ j → d.at ≡ j → i ≡ k)
    → ((i : ℕ) → i < length fs → times j (children (frame_at fs i)) ≤ 1) → used j fs ≤ 1
unfolding used
used_once j [] same once = omega arith
used_once j (f ∷ fs) same once =
    go (has_child j f) refl (used_once j fs (λ i k c d p q m n x y. (let z = same (suc i) (suc k) c d (omega arith) (omega arith) m n x y in omega arith)) (λ i l. once (suc i) (omega arith)))
  where
    go : (b : Bool) → has_child j f ≡ b → used j fs ≤ 1 → times j (children f) + used j fs ≤ 1
    go true e h =
        let a = among_children j f e in
        let o = once 0 (omega arith) in
        let z = used_none j fs (λ i c l m q. (let w = same 0 (suc i) a.child c (omega arith) (omega arith) a.among m a.at_it q in omega arith)) in
        omega arith
    go false e h =
        let z = times_none j (children f) (λ c m q. true≢false (sym (subst (λ (k : ℕ). has_child k f ≡ true) q (has_child_lem f m)) ∙ e)) in
        omega arith

module _ (fs : List Frame) (fine : NoFault fs) (some : 0 < length fs) where
  child_right : (i : ℕ) (c : Child) → i < length fs → In c (children (frame_at fs i))
      → class_of (frame_at fs c.at).kind ≡ c.class
  child_right i c l m = tree_right (all_trees fs (λ k f. fine WrongOrder k f) i l).tree m

  same_user : (i k : ℕ) (c d : Child) → i < length fs → k < length fs
      → In c (children (frame_at fs i)) → In d (children (frame_at fs k)) → c.at ≡ d.at → i ≡ k
  same_user i k c d p q m n e =
      let a = child_below fs fine p m in
      let t = ap has_class (child_right i c p m) ∙ all_in (all_classed (frame_at fs i)) m in
      let u = one_user fs fine c.at (omega arith) t in
      u.only i c p m refl ∙ sym (u.only k d q n (sym e))

  below_less : {i j : ℕ} → Below fs i j → j < i
  below_less (Below.child {i = i} {c = c} m) = child_below fs fine (only_frames fs i c m) m
  below_less (Below.further {i = i} {c = c} m b) =
      let a = child_below fs fine (only_frames fs i c m) m in
      let r = below_less b in
      omega arith

  no_tree_fault : (j : ℕ) → TreeFault fs j → ⊥
  no_tree_fault j (TreeFault.missing l m h) = let a = child_below fs fine l m in omega arith
  no_tree_fault j (TreeFault.twice {j = k} l h) =
      let a = used_once k fs (λ a b c d p q m n x y. same_user a b c d p q m n (x ∙ sym y)) (λ i p. tree_once k (all_trees fs (λ n f. fine WrongOrder n f) i p).tree) in
      omega arith
  no_tree_fault j (TreeFault.cycle l h) = let a = below_less h in omega arith

  last_module : is_module (frame_at fs (length fs - 1)).kind ≡ true
  last_module = ap is_module (main_last fs fine some).0

  shaped : (j : ℕ) → ShapeFault fs j → ⊥
  shaped j (ShapeFault.class {i = i} {c = c} l m h) = h (child_right i c l m)
  shaped j (ShapeFault.leftover l h g) = fine WrongOrder j (Fault.leftover l h g)
  shaped j (ShapeFault.main {j = k} l h g n) = go (ℕ_discrete k (length fs - 1))
    where
      go : Dec (k ≡ length fs - 1) → ⊥
      go (yes e) = n (ap (λ (i : ℕ). (frame_at fs i).s) e ∙ (main_last fs fine some).1)
      go (no d) = true≢false (sym last_module ∙ g (length fs - 1) (omega (arith, d)) (omega arith))
  shaped j (ShapeFault.no_module e g) = true≢false (sym last_module ∙ g (length fs - 1) (omega arith))

  pub in_order_writable : Writable fs
  in_order_writable =
      record { early = λ n j l f. fine n j f; trees = no_tree_fault; shaped = shaped; shallow = λ j f. fine TooDeep j f }
