-- In an ordered file the tree at a frame is made of the trees at its children: one law for
-- expressions and one for statements. Assumes nothing.
use mathlib.Core.Path.{◌≡◌, refl, sym, ap, ap₂, subst, ◌∙◌}
use mathlib.Core.List.{List, ◌++◌}
use Prim.Native.Nat.{ℕ, zero, suc, ◌≤◌, ◌<◌}
use native.Mathlib.Omega.{arith}
use native.Mathlib.Decide.{dec_lt}
use lib.ListN.{length, get_or-eq_default}
use Rattle.basics.specs.Members.{All}
use Rattle.language.specs.Kinds.{Child, children, child_in, uses}
use Rattle.language.specs.declared.kind.StatementKind.{StatementKind}
use Rattle.language.specs.declared.kind.StatementKind.TheVariants.{Nothing, Then, DoAt, Start}
use Rattle.language.specs.declared.kind.StatementKind.TheVariants.{StartWait, Cooperate, Let}
use Rattle.language.specs.declared.kind.StatementKind.TheVariants.{Store, If, While, Generate}
use Rattle.language.specs.declared.kind.StatementKind.TheVariants.{Await}
use Rattle.language.specs.declared.kind.ExpressionKind.{ExpressionKind}
use Rattle.language.specs.declared.kind.ExpressionKind.TheVariants.{Number, Truth, Variable}
use Rattle.language.specs.declared.kind.ExpressionKind.TheVariants.{SharedCell, NewCell, Content}
use Rattle.language.specs.declared.kind.ExpressionKind.TheVariants.{Sum, Less, Choose}
use Rattle.language.specs.declared.kind.Kind.{Kind}
use Rattle.language.specs.declared.kind.Kind.TheVariants.{Header, Declared, Module, Statement}
use Rattle.language.specs.declared.kind.Kind.TheVariants.{Expression, Unknown}
use Rattle.language.specs.declared.frame.Frame.{Frame}
use Rattle.program.specs.Trees.{Expr, new, content, sum, less, choose, Stmt, no_frame, frame_at}
use Rattle.program.specs.Trees.{expression_with, expression_of, expression_to, expression_at}
use Rattle.program.specs.Trees.{statement_with, statement_of, statement_to, statement_at}
use Rattle.program.specs.Inner.Ordered.{Ordered}

-- a frame with its kind written out, for the laws to compute on
abbrev frame : Kind → ℕ → ℕ → ℕ → ℕ → Frame
frame k s a b c = record { kind = k; s = s; a = a; b = b; c = c }

-- every child is below n
abbrev Below : ℕ → Frame → Type 0
Below n f = All (λ (c : Child). c.at < n) (children f)

-- the same of the frame with its kind written out
below_as : (n : ℕ) (f : Frame) (k : Kind) → f.kind ≡ k → Below n f
    → Below n (frame k f.s f.a f.b f.c)
unfolding children
below_as n f k q b = subst (λ (m : Kind). All (λ (c : Child). c.at < n) (child_in (uses m).a f.a ++ child_in (uses m).b f.b ++ child_in (uses m).c f.c)) q b

-- ---- expressions: two ways to give the children agree where they agree below n
expression_with_agrees : (g h : ℕ → Expr) (n i : ℕ) (f : Frame) → Below n f
    → ((j : ℕ) → j < n → g j ≡ h j) → (k : ExpressionKind) → f.kind ≡ Expression k
    → expression_with g i f k ≡ expression_with h i f k
unfolding children
expression_with_agrees g h n i f b e k q = go k (below_as n f _ q b)
  where
    go : (k : ExpressionKind) → Below n (frame (Expression k) f.s f.a f.b f.c)
        → expression_with g i f k ≡ expression_with h i f k
    go Number x = refl
    go Truth x = refl
    go Variable x = refl
    go SharedCell x = refl
    go NewCell (All.more x _) = ap (new i f.s) (e f.a x)
    go Content (All.more x _) = ap (content i) (e f.a x)
    go Sum (All.more x (All.more y _)) = ap₂ (sum i) (e f.a x) (e f.b y)
    go Less (All.more x (All.more y _)) = ap₂ (less i) (e f.a x) (e f.b y)
    go Choose (All.more x (All.more y (All.more z _))) =
        ap₂ (λ (u : Expr) (v : Expr). choose i u v (g f.c)) (e f.a x) (e f.b y)
        ∙ ap (choose i (h f.a) (h f.b)) (e f.c z)

expression_of_agrees : (g h : ℕ → Expr) (n i : ℕ) (f : Frame) → Below n f
    → ((j : ℕ) → j < n → g j ≡ h j) → (k : Kind) → f.kind ≡ k
    → expression_of g i f k ≡ expression_of h i f k
expression_of_agrees g h n i f b e (Expression k) q = expression_with_agrees g h n i f b e k q
expression_of_agrees g h n i f b e (Statement k) q = refl
expression_of_agrees g h n i f b e Header q = refl
expression_of_agrees g h n i f b e (Declared d) q = refl
expression_of_agrees g h n i f b e Module q = refl
expression_of_agrees g h n i f b e Unknown q = refl

-- after the last frame there is none, and none has no child
past : (fs : List Frame) (i : ℕ) → length fs ≤ i → frame_at fs i ≡ no_frame
past fs i h = get_or-eq_default fs no_frame h

below_past : (n : ℕ) → Below n no_frame
unfolding children
below_past n = All.none

module _ (fs : List Frame) (o : Ordered fs) where
  below : (i : ℕ) → Below i (frame_at fs i)
  below i = go (dec_lt i (length fs))
    where
      go : Dec (i < length fs) → Below i (frame_at fs i)
      go (yes h) = o i h
      go (no h) = subst (Below i) (sym (past fs i (omega (arith, h)))) (below_past i)

  -- a tree's depth does not matter once it is over the frame's number
  expression_deep : (d e i : ℕ) → i < d → i < e → expression_to d fs i ≡ expression_to e fs i
  unfolding expression_to
  expression_deep zero e i h k = absurd (omega arith)
  expression_deep (suc d) zero i h k = absurd (omega arith)
  expression_deep (suc d) (suc e) i h k =
      expression_of_agrees (λ j. expression_to d fs j) (λ j. expression_to e fs j) i i (frame_at fs i) (below i) (λ j l. expression_deep d e j (omega arith) (omega arith)) (frame_at fs i).kind refl

  -- so each child may be read to its own depth
  pub expression_at_lem : (i : ℕ)
      → expression_at fs i
      ≡ expression_of (λ j. expression_at fs j) i (frame_at fs i) (frame_at fs i).kind
  unfolding expression_at expression_to
  expression_at_lem i =
      expression_of_agrees (λ j. expression_to i fs j) (λ j. expression_to (suc j) fs j) i i (frame_at fs i) (below i) (λ j l. expression_deep i (suc j) j l (omega arith)) (frame_at fs i).kind refl

-- ---- statements, in the same way; the expressions among the children are given in one way
statement_with_agrees : (x : ℕ → Expr) (g h : ℕ → Stmt) (n i : ℕ) (f : Frame) → Below n f
    → ((j : ℕ) → j < n → g j ≡ h j) → (k : StatementKind) → f.kind ≡ Statement k
    → statement_with x g i f k ≡ statement_with x h i f k
unfolding children
statement_with_agrees x g h n i f b e k q = go k (below_as n f _ q b)
  where
    go : (k : StatementKind) → Below n (frame (Statement k) f.s f.a f.b f.c)
        → statement_with x g i f k ≡ statement_with x h i f k
    go Nothing y = refl
    go Then (All.more y (All.more z _)) = ap₂ (Stmt.seq i) (e f.a y) (e f.b z)
    go DoAt (All.more y _) = ap (Stmt.do_at i f.s) (e f.a y)
    go Start y = refl
    go StartWait y = refl
    go Cooperate y = refl
    go Let (All.more y (All.more z _)) = ap (Stmt.let_in i (x f.a)) (e f.b z)
    go Store y = refl
    go If (All.more y (All.more z (All.more w _))) =
        ap₂ (Stmt.if_else i (x f.a)) (e f.b z) (e f.c w)
    go While (All.more y (All.more z _)) = ap (Stmt.while i (x f.a)) (e f.b z)
    go Generate y = refl
    go Await y = refl

statement_of_agrees : (x : ℕ → Expr) (g h : ℕ → Stmt) (n i : ℕ) (f : Frame) → Below n f
    → ((j : ℕ) → j < n → g j ≡ h j) → (k : Kind) → f.kind ≡ k
    → statement_of x g i f k ≡ statement_of x h i f k
statement_of_agrees x g h n i f b e (Statement k) q = statement_with_agrees x g h n i f b e k q
statement_of_agrees x g h n i f b e (Expression k) q = refl
statement_of_agrees x g h n i f b e Header q = refl
statement_of_agrees x g h n i f b e (Declared d) q = refl
statement_of_agrees x g h n i f b e Module q = refl
statement_of_agrees x g h n i f b e Unknown q = refl

module _ (fs : List Frame) (o : Ordered fs) where
  statement_deep : (d e i : ℕ) → i < d → i < e → statement_to d fs i ≡ statement_to e fs i
  unfolding statement_to
  statement_deep zero e i h k = absurd (omega arith)
  statement_deep (suc d) zero i h k = absurd (omega arith)
  statement_deep (suc d) (suc e) i h k =
      statement_of_agrees (λ j. expression_at fs j) (λ j. statement_to d fs j) (λ j. statement_to e fs j) i i (frame_at fs i) (below fs o i) (λ j l. statement_deep d e j (omega arith) (omega arith)) (frame_at fs i).kind refl

  pub statement_at_lem : (i : ℕ)
      → statement_at fs i
      ≡ statement_of (λ j. expression_at fs j) (λ j. statement_at fs j) i (frame_at fs i)
      (frame_at fs i).kind
  unfolding statement_at statement_to
  statement_at_lem i =
      statement_of_agrees (λ j. expression_at fs j) (λ j. statement_to i fs j) (λ j. statement_to (suc j) fs j) i i (frame_at fs i) (below fs o i) (λ j l. statement_deep i (suc j) j l (omega arith)) (frame_at fs i).kind refl
