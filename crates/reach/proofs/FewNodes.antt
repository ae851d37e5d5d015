-- How large the expressions of a file are that passes refusals 4 to 7: a tree has no more nodes
-- than there are frames from its first to its root, so none has over 1,024. Assumes nothing.
use mathlib.Core.Path.{◌≡◌, refl, ap}
use mathlib.Core.List.{List}
use Prim.Native.Nat.{ℕ, zero, suc, ◌+◌, ◌≤◌, ◌<◌}
use native.Mathlib.Omega.{arith}
use native.Mathlib.Decide.{dec_lt}
use lib.ListN.{length, get_or-eq_default}
use Rattle.language.specs.declared.kind.StatementKind.{StatementKind}
use Rattle.language.specs.declared.kind.ExpressionKind.TheVariants.{Number, Truth, Variable}
use Rattle.language.specs.declared.kind.ExpressionKind.TheVariants.{SharedCell, NewCell, Content}
use Rattle.language.specs.declared.kind.ExpressionKind.TheVariants.{Sum, Less, Choose}
use Rattle.language.specs.declared.kind.Kind.{Kind}
use Rattle.language.specs.declared.kind.Kind.TheVariants.{Header, Declared, Module, Statement}
use Rattle.language.specs.declared.kind.Kind.TheVariants.{Expression, Unknown}
use Rattle.language.specs.declared.frame.Frame.{Frame}
use Rattle.program.specs.Trees.{Expr, no_frame, frame_at, expression_of, expression_to}
use Rattle.program.specs.Trees.{expression_at}
use Rattle.program.specs.Inner.Sizes.{expr_size}
use Rattle.layout.specs.Order.{Tree}
use Rattle.layout.specs.Faults.{NoFault}
use Rattle.layout.proofs.Trees.{tree_le, row_of, One, Two, Three, one_of, two_of, three_of}
use Rattle.reach.proofs.Passed.{trees, row_at, inside}

-- ---- a tree of the frames lo to i, read to any depth
module _ (fs : List Frame) where
  -- what `x` gives at the root of a tree has no more nodes than the tree has frames
  abbrev Small : (ℕ → Expr) → Type 0
  Small x = (lo j : ℕ) → Tree fs lo j → expr_size (x j) + lo ≤ suc j

  -- by the frame's kind; `rec` says it of the children
  module _ (x : ℕ → Expr) (rec : Small x) (lo i : ℕ) (t : Tree fs lo i) where
    one : {a : ℕ} → One fs lo i a → (1 + expr_size (x a)) + lo ≤ suc i
    one {a} r = let l = r.last in let p = rec lo a r.tree in omega arith

    two : {a b : ℕ} → Two fs lo i a b → (1 + (expr_size (x a) + expr_size (x b))) + lo ≤ suc i
    two {a} {b} r =
        let l = r.last in
        let p = rec lo a r.tree in
        let q = rec (suc a) b r.next in
        omega arith

    three : {a b c : ℕ} → Three fs lo i a b c
        → (1 + (expr_size (x a) + (expr_size (x b) + expr_size (x c)))) + lo ≤ suc i
    three {a} {b} {c} r =
        let l = r.last in
        let p = rec lo a r.tree in
        let q = rec (suc a) b r.next in
        let s = rec (suc b) c r.third in
        omega arith

    leaf : 1 + lo ≤ suc i
    leaf = let l = tree_le t in omega arith

    by_kind : (k : Kind) → (frame_at fs i).kind ≡ k
        → expr_size (expression_of x i (frame_at fs i) k) + lo ≤ suc i
    unfolding expr_size
    by_kind Header e = leaf
    by_kind (Declared d) e = leaf
    by_kind Module e = leaf
    by_kind Unknown e = leaf
    by_kind (Statement k) e = leaf
    by_kind (Expression Number) e = leaf
    by_kind (Expression Truth) e = leaf
    by_kind (Expression Variable) e = leaf
    by_kind (Expression SharedCell) e = leaf
    by_kind (Expression NewCell) e = one (one_of (row_of _ i lo e t))
    by_kind (Expression Content) e = one (one_of (row_of _ i lo e t))
    by_kind (Expression Sum) e = two (two_of (row_of _ i lo e t))
    by_kind (Expression Less) e = two (two_of (row_of _ i lo e t))
    by_kind (Expression Choose) e = three (three_of (row_of _ i lo e t))

  pub tree_nodes : (d lo i : ℕ) → Tree fs lo i → expr_size (expression_to d fs i) + lo ≤ suc i
  unfolding expression_to expr_size
  tree_nodes zero lo i t = let l = tree_le t in omega arith
  tree_nodes (suc d) lo i t =
      by_kind (λ j. expression_to d fs j) (tree_nodes d) lo i t (frame_at fs i).kind refl

-- after the last frame there is none, which reads as a leaf
past_nodes : (fs : List Frame) (i : ℕ) → length fs ≤ i → expr_size (expression_at fs i) ≡ 1
unfolding expression_at expression_to expr_size
past_nodes fs i l =
    ap (λ (f : Frame). expr_size (expression_of (λ j. expression_to i fs j) i f f.kind))
    (get_or-eq_default fs no_frame {n = i} l)

-- ---- so of a file that passes
module _ {fs : List Frame} (fine : NoFault fs) where
  pub nodes_few : (i : ℕ) → i < length fs → expr_size (expression_at fs i) ≤ suc i
  unfolding expression_at
  nodes_few i l = let p = tree_nodes fs (suc i) _ i (trees fine i l).tree in omega arith

  -- the two expressions of 17 stand side by side before it
  pub store_nodes : (i : ℕ) → (frame_at fs i).kind ≡ Statement StatementKind.Store
      → expr_size (expression_at fs (frame_at fs i).a) + expr_size (expression_at fs (frame_at fs i).b)
      ≤ i
  unfolding expression_at
  store_nodes i e =
      let r = two_of (row_at fine i (inside fine i _ e refl) _ e) in
      let l = r.last in
      let p = tree_nodes fs (suc (frame_at fs i).a) _ (frame_at fs i).a r.tree in
      let q = tree_nodes fs (suc (frame_at fs i).b) _ (frame_at fs i).b r.next in
      omega arith

  -- ---- 'at most 1,024 frames': wherever an expression is read
  module _ (few : length fs ≤ 1024) where
    pub nodes_most : (i : ℕ) → expr_size (expression_at fs i) ≤ 1024
    nodes_most i = go (dec_lt i (length fs))
      where
        go : Dec (i < length fs) → expr_size (expression_at fs i) ≤ 1024
        go (yes l) = let p = nodes_few i l in omega arith
        go (no n) = let p = past_nodes fs i (omega (arith, n)) in omega arith
