-- The trees of a file whose frames stand in order: their frames rise. Assumes nothing.
use mathlib.Core.Path.{◌≡◌, sym, ap}
use mathlib.Core.List.{List, [], ◌++◌}
use Prim.Native.Nat.{ℕ, zero, suc, ◌<◌}
use native.Mathlib.Omega.{arith}
use Rattle.language.specs.declared.kind.StatementKind.TheVariants.{Nothing, Then, DoAt, Start}
use Rattle.language.specs.declared.kind.StatementKind.TheVariants.{StartWait, Cooperate, Let}
use Rattle.language.specs.declared.kind.StatementKind.TheVariants.{Store, If, While, Generate}
use Rattle.language.specs.declared.kind.StatementKind.TheVariants.{Await}
use Rattle.language.specs.declared.kind.ExpressionKind.TheVariants.{Number, Truth, Variable}
use Rattle.language.specs.declared.kind.ExpressionKind.TheVariants.{SharedCell, NewCell, Content}
use Rattle.language.specs.declared.kind.ExpressionKind.TheVariants.{Sum, Less, Choose}
use Rattle.language.specs.declared.kind.Kind.{Kind}
use Rattle.language.specs.declared.kind.Kind.TheVariants.{Header, Declared, Module, Statement}
use Rattle.language.specs.declared.kind.Kind.TheVariants.{Expression, Unknown}
use Rattle.language.specs.declared.frame.Frame.{Frame}
use Rattle.language.specs.declared.kind.Use.{Use}
use Rattle.language.specs.Kinds.{child_in}
use Rattle.program.specs.Trees.{Expr, Stmt, root_e, root_s, frame_at, expression_of, expression_to}
use Rattle.program.specs.Trees.{expression_at, arguments, statement_of, statement_to, statement_at}
use Rattle.program.proofs.Roots.{expression_root_to, expression_root, statement_root_to}
use Rattle.program.proofs.NodeLaws.{children_as}
use Rattle.layout.specs.Order.{Tree, Row}
use Rattle.layout.proofs.Placed.{PlacedE, PlacedEs, PlacedS}
use Rattle.layout.proofs.Trees.{tree_le, row_le, One, Two, Three, one_of, two_of, three_of}
use Rattle.layout.proofs.Trees.{row_as}

-- ---- expressions: of a kind (`expression_of`), down to a bound (`expression_to`), at a frame
-- (`expression_at`)
from_e : {lo lo' : ℕ} {x : Expr} → lo ≡ lo' → PlacedE lo x → PlacedE lo' x
from_e e p = rw e at p

-- `rec` gives the children's trees
module _ {fs : List Frame} (rec : ℕ → Expr) (roots : (j : ℕ) → root_e (rec j) ≡ j) (f : Frame) (lo i : ℕ) (placed : (j lo' : ℕ) → j < i → Tree fs lo' j → PlacedE lo' (rec j)) where
  -- a later child
  after : (a b : ℕ) → b < i → Tree fs (suc a) b → PlacedE (suc (root_e (rec a))) (rec b)
  after a b l t = from_e (ap suc (sym (roots a))) (placed b (suc a) l t)

  below : (a : ℕ) → suc a ≡ i → root_e (rec a) < i
  below a e = let r = roots a in omega arith

  -- x is made of one, two, three of them
  e_one : {x : Expr} (a : ℕ) → (PlacedE lo (rec a) → root_e (rec a) < i → PlacedE lo x)
      → One fs lo i a → PlacedE lo x
  e_one a make r = let l = r.last in make (placed a lo (omega arith) r.tree) (below a l)

  e_two : {x : Expr} (a b : ℕ)
      → (PlacedE lo (rec a) → PlacedE (suc (root_e (rec a))) (rec b) → root_e (rec b) < i → PlacedE lo x)
      → Two fs lo i a b → PlacedE lo x
  e_two a b make r =
      let l = r.last in
      let k = tree_le r.next in
      make (placed a lo (omega arith) r.tree) (after a b (omega arith) r.next) (below b l)

  e_three : {x : Expr} (a b c : ℕ)
      → (PlacedE lo (rec a) → PlacedE (suc (root_e (rec a))) (rec b) → PlacedE (suc (root_e (rec b))) (rec c) → root_e (rec c) < i → PlacedE lo x)
      → Three fs lo i a b c → PlacedE lo x
  e_three a b c make r =
      let l = r.last in
      let k = tree_le r.next in
      let m = tree_le r.third in
      make (placed a lo (omega arith) r.tree) (after a b (omega arith) r.next)
      (after b c (omega arith) r.third) (below c l)

  placed_e_of : (k : Kind) → Row fs lo i (children_as k f) → PlacedE lo (expression_of rec i f k)
  placed_e_of Header r = PlacedE.number (row_le r)
  placed_e_of (Declared d) r = PlacedE.number (row_le r)
  placed_e_of Module r = PlacedE.number (row_le r)
  placed_e_of Unknown r = PlacedE.number (row_le r)
  placed_e_of (Statement k) r = PlacedE.number (row_le r)
  placed_e_of (Expression Number) r = PlacedE.number (row_le r)
  placed_e_of (Expression Truth) r = PlacedE.truth (row_le r)
  placed_e_of (Expression Variable) r = PlacedE.variable (row_le r)
  placed_e_of (Expression SharedCell) r = PlacedE.shared (row_le r)
  placed_e_of (Expression NewCell) r = e_one f.a (λ p l. PlacedE.new p l) (one_of r)
  placed_e_of (Expression Content) r = e_one f.a (λ p l. PlacedE.content p l) (one_of r)
  placed_e_of (Expression Sum) r = e_two f.a f.b (λ p q l. PlacedE.sum p q l) (two_of r)
  placed_e_of (Expression Less) r = e_two f.a f.b (λ p q l. PlacedE.less p q l) (two_of r)
  placed_e_of (Expression Choose) r =
      e_three f.a f.b f.c (λ p q s l. PlacedE.choose p q s l) (three_of r)

placed_e_to : (n : ℕ) (fs : List Frame) (i lo : ℕ) → i < n → Tree fs lo i
    → PlacedE lo (expression_to n fs i)
unfolding expression_to
placed_e_to zero fs i lo l t = absurd (omega arith)
placed_e_to (suc n) fs i lo l t = placed_e_of (λ j. expression_to n fs j) (expression_root_to n fs) (frame_at fs i) lo i (λ j lo' k u. placed_e_to n fs j lo' (omega arith) u) (frame_at fs i).kind (row_as t)

pub placed_expr : (fs : List Frame) (i lo : ℕ) → Tree fs lo i → PlacedE lo (expression_at fs i)
unfolding expression_at
placed_expr fs i lo t = placed_e_to (suc i) fs i lo (omega arith) t

-- ---- statements, in the same way
from_s : {lo lo' : ℕ} {p : Stmt} → lo ≡ lo' → PlacedS lo p → PlacedS lo' p
from_s e p = rw e at p

module _ (fs : List Frame) (rec : ℕ → Stmt) (roots : (j : ℕ) → root_s (rec j) ≡ j) (f : Frame) (lo i : ℕ) (placed : (j lo' : ℕ) → j < i → Tree fs lo' j → PlacedS lo' (rec j)) where
  abbrev expr : ℕ → Expr
  expr j = expression_at fs j

  -- a later child, after a statement or after an expression
  s_after_s : (a b : ℕ) → b < i → Tree fs (suc a) b → PlacedS (suc (root_s (rec a))) (rec b)
  s_after_s a b l t = from_s (ap suc (sym (roots a))) (placed b (suc a) l t)

  s_after_e : (a b : ℕ) → b < i → Tree fs (suc a) b → PlacedS (suc (root_e (expr a))) (rec b)
  s_after_e a b l t = from_s (ap suc (sym (expression_root fs a))) (placed b (suc a) l t)

  e_after_e : (a b : ℕ) → Tree fs (suc a) b → PlacedE (suc (root_e (expr a))) (expr b)
  e_after_e a b t = from_e (ap suc (sym (expression_root fs a))) (placed_expr fs b (suc a) t)

  below_s : (a : ℕ) → suc a ≡ i → root_s (rec a) < i
  below_s a e = let r = roots a in omega arith

  below_e : (a : ℕ) → suc a ≡ i → root_e (expr a) < i
  below_e a e = let r = expression_root fs a in omega arith

  -- q is made of a statement, of two, of an expression and a statement, of two expressions, of an
  -- expression and two statements
  s_one : {q : Stmt} (a : ℕ) → (PlacedS lo (rec a) → root_s (rec a) < i → PlacedS lo q)
      → One fs lo i a → PlacedS lo q
  s_one a make r = let l = r.last in make (placed a lo (omega arith) r.tree) (below_s a l)

  s_two : {q : Stmt} (a b : ℕ)
      → (PlacedS lo (rec a) → PlacedS (suc (root_s (rec a))) (rec b) → root_s (rec b) < i → PlacedS lo q)
      → Two fs lo i a b → PlacedS lo q
  s_two a b make r =
      let l = r.last in
      let k = tree_le r.next in
      make (placed a lo (omega arith) r.tree) (s_after_s a b (omega arith) r.next)
      (below_s b l)

  s_with : {q : Stmt} (a b : ℕ)
      → (PlacedE lo (expr a) → PlacedS (suc (root_e (expr a))) (rec b) → root_s (rec b) < i → PlacedS lo q)
      → Two fs lo i a b → PlacedS lo q
  s_with a b make r =
      let l = r.last in
      make (placed_expr fs a lo r.tree) (s_after_e a b (omega arith) r.next) (below_s b l)

  s_store : (a b : ℕ) → Two fs lo i a b → PlacedS lo (Stmt.store i (expr a) (expr b))
  s_store a b r =
      PlacedS.store (placed_expr fs a lo r.tree) (e_after_e a b r.next) (below_e b r.last)

  s_if_else : (a b c : ℕ) → Three fs lo i a b c → PlacedS lo (Stmt.if_else i (expr a) (rec b) (rec c))
  s_if_else a b c r =
      let l = r.last in
      let k = tree_le r.third in
      PlacedS.if_else (placed_expr fs a lo r.tree) (s_after_e a b (omega arith) r.next)
      (s_after_s b c (omega arith) r.third) (below_s c l)

  s_arguments : (a b : ℕ) → Row fs lo i (child_in Use.Argument a ++ child_in Use.Further b ++ [])
      → PlacedEs lo (arguments (λ j. expression_at fs j) a b) i
  s_arguments zero b r = PlacedEs.none (row_le r)
  s_arguments (suc a) zero r =
      let o = one_of r in
      PlacedEs.more (placed_expr fs (suc a) lo o.tree)
      (PlacedEs.none (below_e (suc a) o.last))
  s_arguments (suc a) (suc b) r =
      let o = two_of r in
      PlacedEs.more (placed_expr fs (suc a) lo o.tree) (PlacedEs.more (e_after_e (suc a) (suc b) o.next) (PlacedEs.none (below_e (suc b) o.last)))

  placed_s_of : (k : Kind) → Row fs lo i (children_as k f)
      → PlacedS lo (statement_of (λ j. expression_at fs j) rec i f k)
  placed_s_of Header r = PlacedS.nothing (row_le r)
  placed_s_of (Declared d) r = PlacedS.nothing (row_le r)
  placed_s_of Module r = PlacedS.nothing (row_le r)
  placed_s_of Unknown r = PlacedS.nothing (row_le r)
  placed_s_of (Expression k) r = PlacedS.nothing (row_le r)
  placed_s_of (Statement Nothing) r = PlacedS.nothing (row_le r)
  placed_s_of (Statement Then) r = s_two f.a f.b (λ p q l. PlacedS.seq p q l) (two_of r)
  placed_s_of (Statement DoAt) r = s_one f.a (λ p l. PlacedS.do_at p l) (one_of r)
  placed_s_of (Statement Start) r = PlacedS.start (s_arguments f.a f.b r)
  placed_s_of (Statement StartWait) r = PlacedS.start_wait (s_arguments f.a f.b r)
  placed_s_of (Statement Cooperate) r = PlacedS.cooperate (row_le r)
  placed_s_of (Statement Let) r = s_with f.a f.b (λ p q l. PlacedS.let_in p q l) (two_of r)
  placed_s_of (Statement Store) r = s_store f.a f.b (two_of r)
  placed_s_of (Statement If) r = s_if_else f.a f.b f.c (three_of r)
  placed_s_of (Statement While) r = s_with f.a f.b (λ p q l. PlacedS.while p q l) (two_of r)
  placed_s_of (Statement Generate) r = PlacedS.generate (row_le r)
  placed_s_of (Statement Await) r = PlacedS.await (row_le r)

placed_s_to : (n : ℕ) (fs : List Frame) (i lo : ℕ) → i < n → Tree fs lo i
    → PlacedS lo (statement_to n fs i)
unfolding statement_to
placed_s_to zero fs i lo l t = absurd (omega arith)
placed_s_to (suc n) fs i lo l t = placed_s_of fs (λ j. statement_to n fs j) (statement_root_to n fs) (frame_at fs i) lo i (λ j lo' k u. placed_s_to n fs j lo' (omega arith) u) (frame_at fs i).kind (row_as t)

pub placed_stmt : (fs : List Frame) (i lo : ℕ) → Tree fs lo i → PlacedS lo (statement_at fs i)
unfolding statement_at
placed_stmt fs i lo t = placed_s_to (suc i) fs i lo (omega arith) t
