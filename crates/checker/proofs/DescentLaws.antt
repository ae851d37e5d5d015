-- What the recursions ask of each child that they go down to: its number falls, it is a frame of
-- the file, and there is room for its variables. Assumes nothing.
use mathlib.Core.Path.{◌≡◌, refl, sym, subst}
use mathlib.Core.List.{List, [], ◌++◌}
use Prim.Native.Nat.{ℕ, zero, suc, ◌+◌, ◌≤◌, ◌<◌}
use native.Mathlib.Numerals.{add-one}
use native.Mathlib.Omega.{arith}
use lib.ListN.{length, length-map}
use Rattle.basics.specs.Members.{In, first, later}
use Rattle.language.specs.Kinds.{Child, child, children, child_in}
use Rattle.language.specs.declared.Place.{Place}
use Rattle.language.specs.declared.kind.StatementKind.{StatementKind}
use Rattle.language.specs.declared.kind.StatementKind.TheVariants as S
use Rattle.language.specs.declared.kind.Kind.{Kind}
use Rattle.language.specs.declared.kind.Kind.TheVariants.{Header, Declared, Module, Statement}
use Rattle.language.specs.declared.kind.Kind.TheVariants.{Expression, Unknown}
use Rattle.language.specs.declared.kind.Class.{Class}
use Rattle.language.specs.declared.kind.Use.{Use}
use Rattle.language.specs.declared.frame.Frame.{Frame}
use Rattle.text.specs.Frames.{frames_of}
use Rattle.program.specs.Trees.{frame_at}
use Rattle.layout.specs.Inner.Scope.{Room}
use Rattle.program.proofs.NodeLaws.{children_as}
use Rattle.program.proofs.NodeTrees.{Below, operands_below}
use Rattle.layout.proofs.Scopes.{child_below, room_more, room_child, room_most}
use Rattle.program.specs.Inner.Nodes.{statement_node_of, statement_node_in, statement_node}
use Rattle.checker.specs.Inner.Frames.{FileIn}
use Rattle.program.specs.declared.node.CellUse.{CellUse}
use Rattle.program.specs.declared.node.Operator.{Operator}
use Rattle.program.specs.declared.node.ExpressionNode.{ExpressionNode}
use Rattle.program.specs.declared.node.ExpressionNode.TheVariants.{OfValue, OfNumbers, Choose}
use Rattle.program.specs.declared.node.StatementNode.{StatementNode}
use Rattle.program.specs.declared.node.StatementNode.TheVariants as Y
use Rattle.checker.proofs.NodeLaws.{ordered, AtExpression, expression_here, AtStatement}
use Rattle.checker.proofs.NodeLaws.{statement_here}

-- ---- a child of frame i

-- what stands before a frame of the file is one too
pub lower_in : (ws : List ℕ) (i a : ℕ) → i < length ws → a < i → a < length ws
lower_in ws i a l h = omega arith

-- t is the measure of the call: the number of its own frame
lower_falls : {i a : ℕ} → a < i → (t : ℕ) → i ≡ t → a < t
lower_falls {i} {a} h t e = subst (λ (m : ℕ). a < m) e h

module _ {ws : List ℕ} {i : ℕ} (g : FileIn ws) (l : i < length ws) {k : Class} {a : ℕ}
    (c : In (child k a) (children (frame_at (frames_of ws) i))) where
  child_lower : a < i
  child_lower = child_below (frames_of ws) g.laid_out {c = child k a} (rw length-map l) c

  child_in_lem : a < length ws
  child_in_lem = lower_in ws i a l child_lower

  child_falls : (t : ℕ) → i ≡ t → a < t
  child_falls = lower_falls child_lower

pub room_fits : (ws : List ℕ) (i n : ℕ) → FileIn ws → Room (frames_of ws) i n → n ≤ 25
room_fits ws i n g r = room_most (frames_of ws) g.laid_out r

-- ---- the numbers in a statement's node are its frame's children

-- those of a statement's node are among cs; an argument 0 is none
abbrev KidsS : List Child → StatementNode → Type 0
KidsS cs Y.Nothing = Unit {0}
KidsS cs Y.Cooperate = Unit {0}
KidsS cs (Y.Seq a b) = In (child Class.Statement a) cs × In (child Class.Statement b) cs
KidsS cs (Y.DoAt s a) = In (child Class.Statement a) cs
KidsS cs (Y.Start s a b) = ((a ≡ 0 → ⊥) → In (child Class.Expression a) cs) ×
    ((a ≡ 0 → ⊥) → (b ≡ 0 → ⊥) → In (child Class.Expression b) cs)
KidsS cs (Y.StartWait s a b) = ((a ≡ 0 → ⊥) → In (child Class.Expression a) cs) ×
    ((a ≡ 0 → ⊥) → (b ≡ 0 → ⊥) → In (child Class.Expression b) cs)
KidsS cs (Y.LetIn a b) = In (child Class.Expression a) cs × In (child Class.Statement b) cs
KidsS cs (Y.Store a b) = In (child Class.Expression a) cs × In (child Class.Expression b) cs
KidsS cs (Y.IfElse a b c) = In (child Class.Expression a) cs × In (child Class.Statement b) cs × In
    (child Class.Statement c) cs
KidsS cs (Y.While a b) = In (child Class.Expression a) cs × In (child Class.Statement b) cs
KidsS cs (Y.Generate s) = Unit {0}
KidsS cs (Y.Await s) = Unit {0}

first_argument : (a b : ℕ) → (a ≡ 0 → ⊥)
    → In (child Class.Expression a) (child_in Use.Argument a ++ child_in Use.Further b ++ [])
first_argument zero b n = absurd (n refl)
first_argument (suc a) b n = first

second_argument : (a b : ℕ) → (a ≡ 0 → ⊥) → (b ≡ 0 → ⊥)
    → In (child Class.Expression b) (child_in Use.Argument a ++ child_in Use.Further b ++ [])
second_argument zero b n o = absurd (n refl)
second_argument (suc a) zero n o = absurd (o refl)
second_argument (suc a) (suc b) n o = later first

kids_statement : (f : Frame) (k : StatementKind)
    → KidsS (children_as (Statement k) f) (statement_node_of k f.s f.a f.b f.c)
kids_statement f S.Nothing = tt
kids_statement f S.Then = (first, later first)
kids_statement f S.DoAt = first
kids_statement f S.Start = (first_argument f.a f.b, second_argument f.a f.b)
kids_statement f S.StartWait = (first_argument f.a f.b, second_argument f.a f.b)
kids_statement f S.Cooperate = tt
kids_statement f S.Let = (first, later first)
kids_statement f S.Store = (first, later first)
kids_statement f S.If = (first, later first, later (later first))
kids_statement f S.While = (first, later first)
kids_statement f S.Generate = tt
kids_statement f S.Await = tt

kids_kind_s : (f : Frame) (k : Kind) → KidsS (children_as k f) (statement_node_in k f)
kids_kind_s f Header = tt
kids_kind_s f (Declared d) = tt
kids_kind_s f Module = tt
kids_kind_s f (Statement k) = kids_statement f k
kids_kind_s f (Expression k) = tt
kids_kind_s f Unknown = tt

kids_s : (f : Frame) → KidsS (children f) (statement_node f)
unfolding children
kids_s f = kids_kind_s f f.kind

-- ---- expressions
module _ (ws : List ℕ) (i : ℕ) (f : Frame) (n : ExpressionNode) where
  abbrev WhereE : ExpressionNode → Type 0 → Type 0
  WhereE v C = AtExpression ws i f n v C

  lower : {v : ExpressionNode} → WhereE v (Below i v)
  lower {v} h k e g l =
      operands_below (frames_of ws) i v (ordered ws g) (rw length-map l)
      (sym (expression_here ws i f n v h k e g l))

  pub value_falls : (t : ℕ) (u : CellUse) (a : ℕ) → WhereE (OfValue u a) (i ≡ t → a < t)
  value_falls t u a h k e g l = lower_falls (lower h k e g l) t

  pub value_in : (u : CellUse) (a : ℕ) → WhereE (OfValue u a) (a < length ws)
  value_in u a h k e g l = lower_in ws i a l (lower h k e g l)

  module _ (op : Operator) (a b : ℕ) where
    pub numbers_a_falls : (t : ℕ) → WhereE (OfNumbers op a b) (i ≡ t → a < t)
    numbers_a_falls t h k e g l = lower_falls (lower h k e g l).0 t

    pub numbers_a_in : WhereE (OfNumbers op a b) (a < length ws)
    numbers_a_in h k e g l = lower_in ws i a l (lower h k e g l).0

    pub numbers_b_falls : (t : ℕ) → WhereE (OfNumbers op a b) (i ≡ t → b < t)
    numbers_b_falls t h k e g l = lower_falls (lower h k e g l).1 t

    pub numbers_b_in : WhereE (OfNumbers op a b) (b < length ws)
    numbers_b_in h k e g l = lower_in ws i b l (lower h k e g l).1

  module _ (a b c : ℕ) where
    pub choose_a_falls : (t : ℕ) → WhereE (Choose a b c) (i ≡ t → a < t)
    choose_a_falls t h k e g l = lower_falls (lower h k e g l).0 t

    pub choose_a_in : WhereE (Choose a b c) (a < length ws)
    choose_a_in h k e g l = lower_in ws i a l (lower h k e g l).0

    pub choose_b_falls : (t : ℕ) → WhereE (Choose a b c) (i ≡ t → b < t)
    choose_b_falls t h k e g l = lower_falls (lower h k e g l).1 t

    pub choose_b_in : WhereE (Choose a b c) (b < length ws)
    choose_b_in h k e g l = lower_in ws i b l (lower h k e g l).1

    pub choose_c_falls : (t : ℕ) → WhereE (Choose a b c) (i ≡ t → c < t)
    choose_c_falls t h k e g l = lower_falls (lower h k e g l).2 t

    pub choose_c_in : WhereE (Choose a b c) (c < length ws)
    choose_c_in h k e g l = lower_in ws i c l (lower h k e g l).2

-- ---- statements
module _ (ws : List ℕ) (i : ℕ) (f : Frame) (n : StatementNode) where
  abbrev WhereS : StatementNode → Type 0 → Type 0
  WhereS v C = AtStatement ws i f n v C

  its_kids_s : {v : StatementNode} → WhereS v (KidsS (children (frame_at (frames_of ws) i)) v)
  its_kids_s {v} h k e g l = subst (KidsS (children (frame_at (frames_of ws) i)))
      (statement_here ws i f n v h k e g l) (kids_s (frame_at (frames_of ws) i))

  pub seq_a_falls : (t a b : ℕ) → WhereS (Y.Seq a b) (i ≡ t → a < t)
  seq_a_falls t a b h k e g l = child_falls g l (its_kids_s h k e g l).0 t

  pub seq_a_in : (a b : ℕ) → WhereS (Y.Seq a b) (a < length ws)
  seq_a_in a b h k e g l = child_in_lem g l (its_kids_s h k e g l).0

  pub seq_a_room : (m a b : ℕ)
      → WhereS (Y.Seq a b) (Room (frames_of ws) i m → Room (frames_of ws) a m)
  seq_a_room m a b h k e g l r = room_child r (its_kids_s h k e g l).0

  pub seq_b_falls : (t a b : ℕ) → WhereS (Y.Seq a b) (i ≡ t → b < t)
  seq_b_falls t a b h k e g l = child_falls g l (its_kids_s h k e g l).1 t

  pub seq_b_in : (a b : ℕ) → WhereS (Y.Seq a b) (b < length ws)
  seq_b_in a b h k e g l = child_in_lem g l (its_kids_s h k e g l).1

  pub seq_b_room : (m a b : ℕ)
      → WhereS (Y.Seq a b) (Room (frames_of ws) i m → Room (frames_of ws) b m)
  seq_b_room m a b h k e g l r = room_child r (its_kids_s h k e g l).1

  pub do_a_falls : (t : ℕ) (s : Place) (a : ℕ) → WhereS (Y.DoAt s a) (i ≡ t → a < t)
  do_a_falls t s a h k e g l = child_falls g l (its_kids_s h k e g l) t

  pub do_a_in : (s : Place) (a : ℕ) → WhereS (Y.DoAt s a) (a < length ws)
  do_a_in s a h k e g l = child_in_lem g l (its_kids_s h k e g l)

  pub do_a_room : (m : ℕ) (s : Place) (a : ℕ)
      → WhereS (Y.DoAt s a) (Room (frames_of ws) i m → Room (frames_of ws) a m)
  do_a_room m s a h k e g l r = room_child r (its_kids_s h k e g l)

  pub let_a_in : (a b : ℕ) → WhereS (Y.LetIn a b) (a < length ws)
  let_a_in a b h k e g l = child_in_lem g l (its_kids_s h k e g l).0

  pub let_b_falls : (t a b : ℕ) → WhereS (Y.LetIn a b) (i ≡ t → b < t)
  let_b_falls t a b h k e g l = child_falls g l (its_kids_s h k e g l).1 t

  pub let_b_in : (a b : ℕ) → WhereS (Y.LetIn a b) (b < length ws)
  let_b_in a b h k e g l = child_in_lem g l (its_kids_s h k e g l).1

  pub let_b_room : (m a b : ℕ)
      → WhereS (Y.LetIn a b) (Room (frames_of ws) i m → Room (frames_of ws) b (m + 1))
  let_b_room m a b h k e g l r = rw add-one (room_more r (its_kids_s h k e g l).1)

  -- the variable of a let finds room
  pub let_fits : (m a b : ℕ) → WhereS (Y.LetIn a b) (Room (frames_of ws) i m → m < 25)
  let_fits m a b h k e g l r = let s = room_fits ws b (suc m) g
      (room_more r (its_kids_s h k e g l).1) in omega arith

  pub store_a_in : (a b : ℕ) → WhereS (Y.Store a b) (a < length ws)
  store_a_in a b h k e g l = child_in_lem g l (its_kids_s h k e g l).0

  pub store_b_in : (a b : ℕ) → WhereS (Y.Store a b) (b < length ws)
  store_b_in a b h k e g l = child_in_lem g l (its_kids_s h k e g l).1

  pub if_a_in : (a b c : ℕ) → WhereS (Y.IfElse a b c) (a < length ws)
  if_a_in a b c h k e g l = child_in_lem g l (its_kids_s h k e g l).0

  pub if_b_falls : (t a b c : ℕ) → WhereS (Y.IfElse a b c) (i ≡ t → b < t)
  if_b_falls t a b c h k e g l = child_falls g l (its_kids_s h k e g l).1 t

  pub if_b_in : (a b c : ℕ) → WhereS (Y.IfElse a b c) (b < length ws)
  if_b_in a b c h k e g l = child_in_lem g l (its_kids_s h k e g l).1

  pub if_b_room : (m a b c : ℕ)
      → WhereS (Y.IfElse a b c) (Room (frames_of ws) i m → Room (frames_of ws) b m)
  if_b_room m a b c h k e g l r = room_child r (its_kids_s h k e g l).1

  pub if_c_falls : (t a b c : ℕ) → WhereS (Y.IfElse a b c) (i ≡ t → c < t)
  if_c_falls t a b c h k e g l = child_falls g l (its_kids_s h k e g l).2 t

  pub if_c_in : (a b c : ℕ) → WhereS (Y.IfElse a b c) (c < length ws)
  if_c_in a b c h k e g l = child_in_lem g l (its_kids_s h k e g l).2

  pub if_c_room : (m a b c : ℕ)
      → WhereS (Y.IfElse a b c) (Room (frames_of ws) i m → Room (frames_of ws) c m)
  if_c_room m a b c h k e g l r = room_child r (its_kids_s h k e g l).2

  pub while_a_in : (a b : ℕ) → WhereS (Y.While a b) (a < length ws)
  while_a_in a b h k e g l = child_in_lem g l (its_kids_s h k e g l).0

  pub while_b_falls : (t a b : ℕ) → WhereS (Y.While a b) (i ≡ t → b < t)
  while_b_falls t a b h k e g l = child_falls g l (its_kids_s h k e g l).1 t

  pub while_b_in : (a b : ℕ) → WhereS (Y.While a b) (b < length ws)
  while_b_in a b h k e g l = child_in_lem g l (its_kids_s h k e g l).1

  pub while_b_room : (m a b : ℕ)
      → WhereS (Y.While a b) (Room (frames_of ws) i m → Room (frames_of ws) b m)
  while_b_room m a b h k e g l r = room_child r (its_kids_s h k e g l).1

  pub start_first : (s a b : ℕ) → WhereS (Y.Start s a b) ((a ≡ 0 → ⊥) → a < i)
  start_first s a b h k e g l o = child_lower g l ((its_kids_s h k e g l).0 o)

  pub start_second : (s a b : ℕ) → WhereS (Y.Start s a b) ((a ≡ 0 → ⊥) → (b ≡ 0 → ⊥) → b < i)
  start_second s a b h k e g l o p = child_lower g l ((its_kids_s h k e g l).1 o p)

  pub wait_first : (s a b : ℕ) → WhereS (Y.StartWait s a b) ((a ≡ 0 → ⊥) → a < i)
  wait_first s a b h k e g l o = child_lower g l ((its_kids_s h k e g l).0 o)

  pub wait_second : (s a b : ℕ) → WhereS (Y.StartWait s a b) ((a ≡ 0 → ⊥) → (b ≡ 0 → ⊥) → b < i)
  wait_second s a b h k e g l o p = child_lower g l ((its_kids_s h k e g l).1 o p)
