-- 'So each frame has one user': in a file without fault each statement and each expression is a
-- child of exactly one frame, and stands in the tree of a module. Assumes nothing.
use mathlib.Core.Path.{◌≡◌, refl, sym, ap, ◌∙◌}
use mathlib.Core.Bool.{Bool, true, false, true≢false}
use mathlib.Core.List.{List, [], ◌∷◌}
use Prim.Native.Nat.{ℕ, zero, suc, ◌+◌, ◌≤◌, ◌<◌}
use native.Mathlib.Omega.{arith}
use lib.Dec.{ltb, leb, eqb}
use lib.ListN.{length}
use borrow.Author.Tests.{ltb-true, ltb-false, leb-true, leb-false, eqb-true, eqb-false}
use Rattle.basics.specs.Members.{In, any}
use Rattle.language.specs.declared.refusal.Rule.TheVariants.{WrongOrder}
use Rattle.language.specs.Kinds.{class_of, Child, children}
use Rattle.language.specs.declared.kind.DeclarationKind.TheVariants.{Shared, Event, Link}
use Rattle.language.specs.declared.kind.Kind.{Kind}
use Rattle.language.specs.declared.kind.Kind.TheVariants.{Header, Declared, Module, Statement}
use Rattle.language.specs.declared.kind.Kind.TheVariants.{Expression, Unknown}
use Rattle.language.specs.declared.frame.Frame.{Frame}
use Rattle.program.specs.Trees.{no_frame, frame_at}
use Rattle.program.proofs.NodeLaws.{children_as, children_as_lem}
use Rattle.layout.specs.Order.{Tree, Row, has_child, has_class}
use Rattle.layout.specs.Depths.{Depth}
use Rattle.layout.specs.Faults.{Fault, NoFault}
use Rattle.layout.proofs.Searches.{any-true, any_false}
use Rattle.layout.proofs.Trees.{tree_le, tree_one, tree_in, HasTree, Among, none_in}
use Rattle.layout.proofs.Order.{all_trees}
use Rattle.layout.proofs.Depths.{body_depth, child_depth}

module _ {fs : List Frame} where
  -- the tree of a frame within a tree or a row begins within it
  mutual
    pub within_tree : {lo r : ℕ} → Tree fs lo r → (i start : ℕ) → lo ≤ i → i ≤ r → Tree fs start i
        → lo ≤ start
    within_tree {lo} {r} (Tree.root row) i start a b t =
        go (eqb i r) refl (λ l. within_row row i start a l t)
      where
        go : (b : Bool) → eqb i r ≡ b → (i < r → lo ≤ start) → lo ≤ start
        go true e h =
            let q : i ≡ r = eqb-true i r e in
            let u : Tree fs start r = (rw q at t) in
            let z = tree_one (Tree.root row) u in
            omega arith
        go false e h = let q : i ≡ r → ⊥ = eqb-false i r e in h (omega arith)

    pub within_row : {lo stop : ℕ} {cs : List Child} → Row fs lo stop cs → (i start : ℕ) → lo ≤ i
        → i < stop → Tree fs start i → lo ≤ start
    within_row Row.none i start a b t = absurd (omega arith)
    within_row {lo} (Row.more {c = c} u e r) i start a b t = go (leb i c.at) refl (λ l. within_tree u i start a l t) (λ l. within_row r i start l b t)
      where
        go : (x : Bool) → leb i c.at ≡ x → (i ≤ c.at → lo ≤ start) → (c.at < i → c.at < start)
            → lo ≤ start
        go true e f g = f (leb-true i c.at e)
        go false e f g =
            let k : c.at < i = leb-false i c.at e in
            let z = g k in
            let y = tree_le u in
            omega arith

  -- a frame after a child of a row has its tree after it
  pub after_child : {lo stop : ℕ} {cs : List Child} {c : Child} → Row fs lo stop cs → In c cs
      → (i start : ℕ) → c.at < i → i < stop → Tree fs start i → c.at < start
  after_child (Row.more u e r) In.first i start a b t = within_row r i start a b t
  after_child (Row.more u e r) (In.later m) i start a b t = after_child r m i start a b t
  after_child {c = c} (Rattle.layout.specs.Order.none {stop = stop}) x17 i start a b t = elim x17 [ ]

  pub row_from : {lo stop : ℕ} {cs : List Child} {c : Child} → Row fs lo stop cs → In c cs → lo ≤ c.at
  row_from (Row.more u e r) In.first = tree_le u
  row_from (Row.more u e r) (In.later m) = let a = tree_le u in let b = row_from r m in omega arith
  row_from {c = c} (Rattle.layout.specs.Order.none {stop = stop}) x5 = elim x5 [ ]

  pub tree_from : {lo i : ℕ} {c : Child} → Tree fs lo i → In c (children (frame_at fs i)) → lo ≤ c.at
  tree_from (Tree.root r) m = row_from r m

  -- no two frames have the same child
  apart : {lo lo' i j : ℕ} {c d : Child} → Tree fs lo i → Tree fs lo' j
      → In c (children (frame_at fs i)) → In d (children (frame_at fs j)) → c.at ≡ d.at → i < j → ⊥
  apart {lo} {lo'} {i} {j} t (Tree.root r) m n e l =
      let a = tree_from t m in
      let b = tree_in t m in
      let k = after_child r n i lo (omega arith) l t in
      omega arith

among_any : (j : ℕ) (cs : List Child) → any (λ (c : Child). eqb c.at j) cs ≡ true → Among cs j
unfolding any
among_any j [] h = absurd (true≢false (sym h))
among_any j (c ∷ cs) h = go (eqb c.at j) refl h (λ g. among_any j cs g)
  where
    go : (b : Bool) → eqb c.at j ≡ b
        → elim b [ true ↦ true | false ↦ any (λ (c : Child). eqb c.at j) cs ] ≡ true
        → (any (λ (c : Child). eqb c.at j) cs ≡ true → Among cs j) → Among (c ∷ cs) j
    go true e g r = record { child = c; among = In.first; at_it = eqb-true _ _ e }
    go false e g r =
        let p = r g in record { child = p.child; among = In.later p.among; at_it = p.at_it }

pub among_children : (j : ℕ) (f : Frame) → has_child j f ≡ true → Among (children f) j
unfolding has_child
among_children j f h = among_any j (children f) h

-- the frame that has frame j as a child, and the only one
pub record User (fs : List Frame) (j : ℕ) : Type 0 where
  pub user : ℕ
  pub inside : user < length fs
  pub has : Among (children (frame_at fs user)) j
  pub only : (i : ℕ) (c : Child) → i < length fs → In c (children (frame_at fs i)) → c.at ≡ j
      → i ≡ user

pub one_user : (fs : List Frame) → NoFault fs → (j : ℕ) → j < length fs
    → has_class (class_of (frame_at fs j).kind) ≡ true → User fs j
one_user fs fine j l k = go (any (has_child j) fs) refl
  where
    trees : (i : ℕ) → i < length fs → HasTree fs i
    trees = all_trees fs (λ n f. fine WrongOrder n f)

    same : (i m : ℕ) (c d : Child) → i < length fs → m < length fs → In c (children (frame_at fs i))
        → In d (children (frame_at fs m)) → c.at ≡ d.at → i ≡ m
    same i m c d p q x y e = less (ltb i m) refl (ltb m i) refl
      where
        less : (a : Bool) → ltb i m ≡ a → (b : Bool) → ltb m i ≡ b → i ≡ m
        less true u b v = absurd (apart (trees i p).tree (trees m q).tree x y e (ltb-true i m u))
        less false u true v =
            absurd (apart (trees m q).tree (trees i p).tree y x (sym e) (ltb-true m i v))
        less false u false v = (let a = ltb-false i m u in let b = ltb-false m i v in omega arith)

    go : (b : Bool) → any (has_child j) fs ≡ b → User fs j
    go false e =
        absurd (fine WrongOrder j (Fault.leftover l k (λ i p. any_false no_frame (has_child j) fs e i p)))
    go true e =
        let p = any-true no_frame (has_child j) fs e in
        let h = among_children j (frame_at fs p.at) p.passes in
        record { user = p.at; inside = p.inside; has = h; only = λ i c q m z. same i p.at c h.child q p.inside m h.among (z ∙ sym h.at_it) }

-- ---- so each of them stands in the tree of a module
pub record Stands (fs : List Frame) (j : ℕ) : Type 0 where
  pub depth : ℕ
  pub is : Depth fs j depth

-- what has a child is a module, a statement or an expression
pub data Parent (k : Kind) : Type 0 where
  of_module : k ≡ Module → Parent k
  of_class : has_class (class_of k) ≡ true → Parent k

as_kind : (f : Frame) (k : Kind) {c : Child} → f.kind ≡ k → In c (children f)
    → In c (children_as k f)
as_kind f k {c} e m = rw (children_as_lem f k e) at m

pub parent : (f : Frame) (c : Child) → In c (children f) → Parent f.kind
parent f c m = go f.kind refl
  where
    go : (k : Kind) → f.kind ≡ k → Parent f.kind
    go Module e = Parent.of_module e
    go (Statement k) e = Parent.of_class (ap (λ (q : Kind). has_class (class_of q)) e)
    go (Expression k) e = Parent.of_class (ap (λ (q : Kind). has_class (class_of q)) e)
    go Header e = absurd (none_in (as_kind f Header e m))
    go (Declared Shared) e = absurd (none_in (as_kind f (Declared Shared) e m))
    go (Declared Event) e = absurd (none_in (as_kind f (Declared Event) e m))
    go (Declared Link) e = absurd (none_in (as_kind f (Declared Link) e m))
    go Unknown e = absurd (none_in (as_kind f Unknown e m))

module _ (fs : List Frame) (fine : NoFault fs) where
  up : (j : ℕ) (u : User fs j) → Parent (frame_at fs u.user).kind
      → (has_class (class_of (frame_at fs u.user).kind) ≡ true → Stands fs u.user) → Stands fs j
  up j u (Parent.of_module e) rec = record { depth = 1; is = body_depth u.inside e u.has }
  up j u (Parent.of_class h) rec =
      let s = rec h in record { depth = suc s.depth; is = child_depth s.is u.has }

  -- a user stands after its child: n bounds how many frames are left to climb to
  climb : (n j : ℕ) → length fs ≤ n + j → j < length fs
      → has_class (class_of (frame_at fs j).kind) ≡ true → Stands fs j
  climb zero j l k h = absurd (omega arith)
  climb (suc n) j l k c =
      let u = one_user fs fine j k c in
      let h = u.has in
      let a = tree_in (all_trees fs (λ m f. fine WrongOrder m f) u.user u.inside).tree h.among in
      let e = h.at_it in
      up j u (parent (frame_at fs u.user) h.child h.among)
      (λ g. climb n u.user (omega arith) u.inside g)

  pub stands : (j : ℕ) → j < length fs → has_class (class_of (frame_at fs j).kind) ≡ true
      → Stands fs j
  stands j l h = climb (length fs) j (omega arith) l h
