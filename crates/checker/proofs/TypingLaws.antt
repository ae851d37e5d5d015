-- What the rules find of an expression, from the node at its root and what they find of its
-- operands: one law for each arm of `type_of`. Assumes nothing.
use mathlib.Core.Path.{◌≡◌, refl, sym, ap, ◌∙◌}
use mathlib.Core.List.{List}
use Prim.Native.Nat.{ℕ}
use Rattle.language.specs.declared.frame.Frame.{Frame}
use Rattle.text.specs.Frames.{frames_of}
use Rattle.program.specs.Trees.{Expr, expression_at}
use Rattle.program.specs.declared.node.Leaf.{Leaf}
use Rattle.program.specs.declared.node.CellUse.{CellUse}
use Rattle.program.specs.declared.node.Operator.{Operator}
use Rattle.program.specs.declared.node.ExpressionNode.{ExpressionNode}
use Rattle.program.specs.declared.node.ExpressionNode.TheVariants.{Plain, OfValue, OfNumbers}
use Rattle.program.specs.declared.node.ExpressionNode.TheVariants.{Choose}
use Rattle.program.proofs.NodeTrees.{tree_of, tree_at}
use Rattle.rules.specs.Inner.Checking.{numbers_rule, choose_rule, type_in}
use Rattle.rules.specs.Inner.NodeRules.{leaf_rule, cell_rule, made_by}
use Rattle.rules.specs.Inner.Findings.{Typing}
use Rattle.checker.proofs.NodeLaws.{ordered, AtExpression, expression_here}

-- ---- the definition by nodes: what is found at frame i, where T says what is found at an operand
abbrev type_by : (ℕ → Typing) → List ℕ → List ℕ → ℕ → ExpressionNode → Typing
type_by T cells Γ i (Plain l) = leaf_rule cells Γ l i
type_by T cells Γ i (OfValue u a) = cell_rule u i (T a)
type_by T cells Γ i (OfNumbers op a b) = numbers_rule (made_by op) i (T a) (T b)
type_by T cells Γ i (Choose a b c) = choose_rule i (T a) (T b) (T c)

by_tree : (cells Γ : List ℕ) (rec : ℕ → Expr) (i : ℕ) (d : ExpressionNode)
    → type_in cells Γ (tree_of rec i d) ≡ type_by (λ j. type_in cells Γ (rec j)) cells Γ i d
unfolding type_in
by_tree cells Γ rec i (Plain (Leaf.Number v)) = refl
by_tree cells Γ rec i (Plain (Leaf.Truth v)) = refl
by_tree cells Γ rec i (Plain (Leaf.Variable s)) = refl
by_tree cells Γ rec i (Plain (Leaf.SharedCell s)) = refl
by_tree cells Γ rec i (OfValue (CellUse.Make s) a) = refl
by_tree cells Γ rec i (OfValue CellUse.Read a) = refl
by_tree cells Γ rec i (OfNumbers Operator.Sum a b) = refl
by_tree cells Γ rec i (OfNumbers Operator.Less a b) = refl
by_tree cells Γ rec i (Choose a b c) = refl

-- ---- at a frame of a laid-out file
abbrev pub type_at : List ℕ → List ℕ → List ℕ → ℕ → Typing
type_at cells Γ ws i = type_in cells Γ (expression_at (frames_of ws) i)

-- ---- the code's returns
module _ (cells Γ ws : List ℕ) (i : ℕ) (f : Frame) (n : ExpressionNode) where
  abbrev Where : ExpressionNode → Type 0 → Type 0
  Where v C = AtExpression ws i f n v C

  -- x is what is found at frame a
  abbrev T : ℕ → Typing → Type 0
  T a x = x ≡ type_at cells Γ ws a

  by_node : (v : ExpressionNode) (r : Typing)
      → Where v (r ≡ type_by (type_at cells Γ ws) cells Γ i v → T i r)
  by_node v r h k e g j z =
      let here = sym (expression_here ws i f n v h k e g j) in
      z
      ∙ sym (by_tree cells Γ (expression_at (frames_of ws)) i v)
      ∙ sym (ap (type_in cells Γ) (tree_at (frames_of ws) i v (ordered ws g) here))

  pub type_plain : (l : Leaf) (r : Typing) → Where (Plain l) (r ≡ leaf_rule cells Γ l i → T i r)
  type_plain l r h k e g j z = by_node (Plain l) r h k e g j z

  pub type_value : (u : CellUse) (a : ℕ) (x r : Typing)
      → Where (OfValue u a) (T a x → r ≡ cell_rule u i x → T i r)
  type_value u a x r h k e g j p z = by_node (OfValue u a) r h k e g j (z ∙ ap (cell_rule u i) p)

  pub type_numbers : (op : Operator) (a b w : ℕ) (x y r : Typing)
      → Where (OfNumbers op a b) (w ≡ made_by op → T a x → T b y → r ≡ numbers_rule w i x y → T i r)
  type_numbers op a b w x y r h k e g j m u v z =
      by_node (OfNumbers op a b) r h k e g j
      (z ∙ ap (λ (t : ℕ). numbers_rule t i x y) m
      ∙ ap (λ (t : Typing). numbers_rule (made_by op) i t y) u
      ∙ ap (numbers_rule (made_by op) i (type_at cells Γ ws a)) v)

  pub type_choose : (a b c : ℕ) (x y w r : Typing)
      → Where (Choose a b c) (T a x → T b y → T c w → r ≡ choose_rule i x y w → T i r)
  type_choose a b c x y w r h k e g j u v t z =
      by_node (Choose a b c) r h k e g j
      (z ∙ ap (λ (d : Typing). choose_rule i d y w) u
      ∙ ap (λ (d : Typing). choose_rule i (type_at cells Γ ws a) d w) v
      ∙ ap (choose_rule i (type_at cells Γ ws a) (type_at cells Γ ws b)) t)
