-- Laws of trees and rows of frames: where they begin, which children they have, what is a child of
-- a known kind of frame. Assumes nothing.
use mathlib.Core.Bool.{true, true≢false}
use mathlib.Core.List.{List, [], ◌∷◌}
use mathlib.Core.Path.{◌≡◌, refl, sym}
use Prim.Native.Nat.{ℕ, suc, ◌+◌, ◌≤◌, ◌<◌}
use native.Mathlib.Omega.{arith}
use lib.ListN.{length}
use Rattle.basics.specs.Members.{In}
use Rattle.language.specs.Kinds.{is_module, Child, children}
use Rattle.language.specs.declared.kind.Class.{Class}
use Rattle.language.specs.declared.kind.Kind.TheVariants.{Header, Declared, Module, Statement}
use Rattle.language.specs.declared.kind.Kind.TheVariants.{Expression, Unknown}
use Rattle.language.specs.declared.kind.Kind.{Kind}
use Rattle.language.specs.declared.frame.Frame.{Frame}
use Rattle.program.specs.Trees.{frame_at}
use Rattle.program.proofs.NodeLaws.{children_as, children_as_lem}
use Rattle.layout.specs.Order.{Tree, Row}

pub is_module_lem : (k : Kind) → is_module k ≡ true → k ≡ Module
is_module_lem Header h = absurd (true≢false (sym h))
is_module_lem (Declared d) h = absurd (true≢false (sym h))
is_module_lem Module h = refl
is_module_lem (Statement k) h = absurd (true≢false (sym h))
is_module_lem (Expression k) h = absurd (true≢false (sym h))
is_module_lem Unknown h = absurd (true≢false (sym h))

module _ {fs : List Frame} where
  -- a tree begins at its root or before
  mutual
    pub tree_le : {lo i : ℕ} → Tree fs lo i → lo ≤ i
    tree_le (Tree.root r) = row_le r

    pub row_le : {lo stop : ℕ} {cs : List Child} → Row fs lo stop cs → lo ≤ stop
    row_le Row.none = omega arith
    row_le (Row.more t e r) = let a = tree_le t in let b = row_le r in omega arith

  -- and at one frame only
  mutual
    pub tree_one : {lo hi i : ℕ} → Tree fs lo i → Tree fs hi i → lo ≡ hi
    tree_one (Tree.root r) (Tree.root s) = row_one r s

    pub row_one : {lo hi stop : ℕ} {cs : List Child} → Row fs lo stop cs → Row fs hi stop cs
        → lo ≡ hi
    row_one Row.none Row.none = refl
    row_one (Row.more t e r) (Row.more u f s) = tree_one t u

-- the children of a tree's root stand before it
row_in : {fs : List Frame} {lo stop : ℕ} {cs : List Child} {c : Child} → Row fs lo stop cs → In c cs
    → c.at < stop
row_in (Row.more t e r) In.first = row_le r
row_in (Row.more t e r) (In.later m) = row_in r m
row_in {fs = fs} {c = c} (Rattle.layout.specs.Order.none {stop = stop}) x5 = elim x5 [ ]

pub tree_in : {fs : List Frame} {lo i : ℕ} {c : Child} → Tree fs lo i
    → In c (children (frame_at fs i)) → c.at < i
tree_in (Tree.root r) m = row_in r m

-- frame j is the root of a tree
pub record HasTree (fs : List Frame) (j : ℕ) : Type 0 where
  pub from : ℕ
  pub tree : Tree fs from j

-- the list `tail` holds the frames from i on
pub record From (fs : List Frame) (i : ℕ) (tail : List Frame) : Type 0 where
  pub same : (q : ℕ) → frame_at tail q ≡ frame_at fs (i + q)
  pub size : length fs ≡ i + length tail

pub from_next : {fs : List Frame} {i : ℕ} {f : Frame} {tail : List Frame} → From fs i (f ∷ tail)
    → From fs (suc i) tail
from_next {fs} {i} {f} {tail} h = record { same = λ q. (let e : suc i + q ≡ i + suc q = omega arith in rw e (h.same (suc q))); size = (let s = h.size in omega arith) }

pub from_start : (fs : List Frame) → From fs 0 fs
from_start fs =
    record { same = λ q. (let e : 0 + q ≡ q = omega arith in rw e refl); size = omega arith }

-- ---- rows of one, two and three children
pub record One (fs : List Frame) (lo i a : ℕ) : Type 0 where
  pub tree : Tree fs lo a
  pub last : suc a ≡ i

pub record Two (fs : List Frame) (lo i a b : ℕ) : Type 0 where
  pub tree : Tree fs lo a
  pub next : Tree fs (suc a) b
  pub last : suc b ≡ i

pub record Three (fs : List Frame) (lo i a b c : ℕ) : Type 0 where
  pub tree : Tree fs lo a
  pub next : Tree fs (suc a) b
  pub third : Tree fs (suc b) c
  pub last : suc c ≡ i

row_end : {fs : List Frame} {lo i : ℕ} → Row fs lo i [] → lo ≡ i
row_end Row.none = refl

pub one_of : {fs : List Frame} {lo i : ℕ} {x : Child} → Row fs lo i (x ∷ []) → One fs lo i x.at
one_of (Row.more t e r) = record { tree = t; last = row_end r }

pub two_of : {fs : List Frame} {lo i : ℕ} {x y : Child} → Row fs lo i (x ∷ y ∷ [])
    → Two fs lo i x.at y.at
two_of (Row.more t e (Row.more u f r)) = record { tree = t; next = u; last = row_end r }

pub three_of : {fs : List Frame} {lo i : ℕ} {x y z : Child} → Row fs lo i (x ∷ y ∷ z ∷ [])
    → Three fs lo i x.at y.at z.at
three_of (Row.more t e (Row.more u f (Row.more v g r))) =
    record { tree = t; next = u; third = v; last = row_end r }

-- ---- the children of a frame of a known kind: their row
pub row_of : {fs : List Frame} (k : Kind) (i lo : ℕ) → (frame_at fs i).kind ≡ k → Tree fs lo i
    → Row fs lo i (children_as k (frame_at fs i))
row_of {fs} k i lo e (Tree.root r) = rw (children_as_lem (frame_at fs i) k e) at r

pub row_as : {fs : List Frame} {lo i : ℕ} → Tree fs lo i
    → Row fs lo i (children_as (frame_at fs i).kind (frame_at fs i))
row_as {fs} {lo} {i} t = row_of (frame_at fs i).kind i lo refl t

-- ---- members of the children
-- some child of the list is frame j
pub record Among (cs : List Child) (j : ℕ) : Type 0 where
  pub child : Child
  pub among : In child cs
  pub at_it : child.at ≡ j

pub none_in : {c : Child} → In c [] → ⊥
none_in m = elim m [ ]

only_one : {c x : Child} → In c (x ∷ []) → c.at ≡ x.at
only_one In.first = refl
only_one (In.later m) = absurd (none_in m)

-- a module has its body as a child, and no other
pub in_body : (f : Frame) → f.kind ≡ Module
    → In (record { class = Class.Statement; at = f.a }) (children f)
in_body f e = rw (children_as_lem f Module e) In.first

pub only_body : (f : Frame) (c : Child) → f.kind ≡ Module → In c (children f) → c.at ≡ f.a
only_body f c e m =
    let n : In c (record { class = Class.Statement; at = f.a } ∷ []) = (rw (children_as_lem f Module e) at m) in
    only_one n
