-- The node at a frame: the tree that it and its operands' trees make, that its operands stand
-- before it, and that a new cell's owner is a place. Assumes nothing.
use mathlib.Core.Path.{◌≡◌, refl, sym, ap, ◌∙◌, subst}
use mathlib.Core.Bool.{true}
use mathlib.Core.List.{List}
use Prim.Native.Nat.{ℕ, ◌<◌}
use lib.ListN.{length}
use Rattle.basics.specs.Members.{All}
use Rattle.language.specs.Places.{is_place}
use Rattle.language.specs.Kinds.{uses, Child, children}
use Rattle.language.specs.Inner.Reads.{NamesPlace}
use Rattle.language.specs.declared.kind.ExpressionKind.{ExpressionKind}
use Rattle.language.specs.declared.kind.ExpressionKind.TheVariants as E
use Rattle.language.specs.declared.kind.Kind.{Kind}
use Rattle.language.specs.declared.kind.Kind.TheVariants.{Header, Declared, Module, Statement}
use Rattle.language.specs.declared.kind.Kind.TheVariants.{Expression, Unknown}
use Rattle.language.specs.declared.kind.Use.{Use}
use Rattle.language.specs.declared.frame.Frame.{Frame}
use Rattle.program.specs.Trees.{Expr, number, truth, variable, shared, new, content, sum}
use Rattle.program.specs.Trees.{less, choose, frame_at, expression_of, expression_at}
use Rattle.program.specs.Inner.Ordered.{Ordered}
use Rattle.program.specs.Inner.Nodes.{expression_node_in, expression_node}
use Rattle.program.specs.declared.node.Leaf.{Leaf}
use Rattle.program.specs.declared.node.CellUse.TheVariants.{Make, Read}
use Rattle.program.specs.declared.node.Operator.{Operator}
use Rattle.program.specs.declared.node.ExpressionNode.{ExpressionNode}
use Rattle.program.specs.declared.node.ExpressionNode.TheVariants.{Plain, OfValue, OfNumbers}
use Rattle.program.specs.declared.node.ExpressionNode.TheVariants.{Choose}
use Rattle.program.proofs.Decoding.{expression_at_lem}
use Rattle.program.proofs.NodeLaws.{children_as}

-- ---- the tree, from the node; `rec` gives the trees at its operands
abbrev pub tree_of : (ℕ → Expr) → ℕ → ExpressionNode → Expr
tree_of rec i (Plain (Leaf.Number n)) = number i n
tree_of rec i (Plain (Leaf.Truth s)) = truth i s
tree_of rec i (Plain (Leaf.Variable s)) = variable i s
tree_of rec i (Plain (Leaf.SharedCell s)) = shared i s
tree_of rec i (OfValue (Make s) a) = new i s.number (rec a)
tree_of rec i (OfValue Read a) = content i (rec a)
tree_of rec i (OfNumbers Operator.Sum a b) = sum i (rec a) (rec b)
tree_of rec i (OfNumbers Operator.Less a b) = less i (rec a) (rec b)
tree_of rec i (Choose a b c) = choose i (rec a) (rec b) (rec c)

with_tree : (rec : ℕ → Expr) (i : ℕ) (f : Frame) (k : ExpressionKind)
    → expression_of rec i f (Expression k) ≡ tree_of rec i (expression_node_in (Expression k) f)
with_tree rec i f E.Number = refl
with_tree rec i f E.Truth = refl
with_tree rec i f E.Variable = refl
with_tree rec i f E.SharedCell = refl
with_tree rec i f E.NewCell = refl
with_tree rec i f E.Content = refl
with_tree rec i f E.Sum = refl
with_tree rec i f E.Less = refl
with_tree rec i f E.Choose = refl

of_tree : (rec : ℕ → Expr) (i : ℕ) (f : Frame) (k : Kind)
    → expression_of rec i f k ≡ tree_of rec i (expression_node_in k f)
of_tree rec i f (Expression k) = with_tree rec i f k
of_tree rec i f (Statement k) = refl
of_tree rec i f Header = refl
of_tree rec i f (Declared d) = refl
of_tree rec i f Module = refl
of_tree rec i f Unknown = refl

pub tree_at : (fs : List Frame) (i : ℕ) (d : ExpressionNode) → Ordered fs
    → d ≡ expression_node (frame_at fs i) → expression_at fs i ≡ tree_of (expression_at fs) i d
tree_at fs i d o e =
    expression_at_lem fs o i
    ∙ of_tree (expression_at fs) i (frame_at fs i) (frame_at fs i).kind
    ∙ ap (tree_of (expression_at fs) i) (sym e)

-- ---- operands stand before their frame, so that the frame number falls in a recursion
abbrev pub Below : ℕ → ExpressionNode → Type 0
Below i (Plain l) = Unit {0}
Below i (OfValue u a) = a < i
Below i (OfNumbers op a b) = (a < i) × (b < i)
Below i (Choose a b c) = (a < i) × (b < i) × (c < i)

abbrev Before : ℕ → List Child → Type 0
Before n cs = All (λ (c : Child). c.at < n) cs

with_below : (n : ℕ) (f : Frame) (k : ExpressionKind) → Before n (children_as (Expression k) f)
    → Below n (expression_node_in (Expression k) f)
with_below n f E.Number x = tt
with_below n f E.Truth x = tt
with_below n f E.Variable x = tt
with_below n f E.SharedCell x = tt
with_below n f E.NewCell (All.more x _) = x
with_below n f E.Content (All.more x _) = x
with_below n f E.Sum (All.more x (All.more y _)) = (x, y)
with_below n f E.Less (All.more x (All.more y _)) = (x, y)
with_below n f E.Choose (All.more x (All.more y (All.more z _))) = (x, y, z)

of_below : (n : ℕ) (f : Frame) (k : Kind) → Before n (children_as k f)
    → Below n (expression_node_in k f)
of_below n f (Expression k) x = with_below n f k x
of_below n f (Statement k) x = tt
of_below n f Header x = tt
of_below n f (Declared d) x = tt
of_below n f Module x = tt
of_below n f Unknown x = tt

pub operands_below : (fs : List Frame) (i : ℕ) (d : ExpressionNode) → Ordered fs → i < length fs
    → d ≡ expression_node (frame_at fs i) → Below i d
unfolding children
operands_below fs i d o h e =
    subst (Below i) (sym e) (of_below i (frame_at fs i) (frame_at fs i).kind (o i h))

-- ---- the owner of a new cell is a place
abbrev pub Owned : ExpressionNode → Type 0
Owned (Plain l) = Unit {0}
Owned (OfValue (Make s) a) = is_place s.number ≡ true
Owned (OfValue Read a) = Unit {0}
Owned (OfNumbers op a b) = Unit {0}
Owned (Choose a b c) = Unit {0}

module _ (f : Frame) where
  abbrev Names : Kind → Type 0
  Names k = (uses k).s ≡ Use.Place → is_place f.s ≡ true

  with_owner : (k : ExpressionKind) → Names (Expression k)
      → Owned (expression_node_in (Expression k) f)
  with_owner E.Number h = tt
  with_owner E.Truth h = tt
  with_owner E.Variable h = tt
  with_owner E.SharedCell h = tt
  with_owner E.NewCell h = h refl
  with_owner E.Content h = tt
  with_owner E.Sum h = tt
  with_owner E.Less h = tt
  with_owner E.Choose h = tt

  of_owner : (k : Kind) → Names k → Owned (expression_node_in k f)
  of_owner Header h = tt
  of_owner (Declared d) h = tt
  of_owner Module h = tt
  of_owner (Statement k) h = tt
  of_owner (Expression k) h = with_owner k h
  of_owner Unknown h = tt

pub owner_placed : (f : Frame) (d : ExpressionNode) → NamesPlace f → d ≡ expression_node f → Owned d
owner_placed f d h e = subst Owned (sym e) (of_owner f f.kind h)
