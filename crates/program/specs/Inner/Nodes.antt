-- How the code takes a frame apart: a node with the numbers that its kind uses. Whoever reads the
-- rules can skip this; proofs/NodeTrees ties it to the trees. Assumes nothing: definitions.
use Rattle.std.specs.Prelude.{ℕ}
use Rattle.language.specs.declared.kind.StatementKind.{StatementKind}
use Rattle.language.specs.declared.kind.StatementKind.TheVariants as S
use Rattle.language.specs.declared.kind.ExpressionKind.{ExpressionKind}
use Rattle.language.specs.declared.kind.ExpressionKind.TheVariants as E
use Rattle.language.specs.declared.kind.Kind.{Kind}
use Rattle.language.specs.declared.kind.Kind.TheVariants.{Header, Declared, Module, Statement}
use Rattle.language.specs.declared.kind.Kind.TheVariants.{Expression, Unknown}
use Rattle.language.specs.declared.frame.Frame.{Frame}
use Rattle.program.specs.declared.node.Leaf.{Leaf}
use Rattle.program.specs.declared.node.CellUse.TheVariants.{Make, Read}
use Rattle.program.specs.declared.node.Operator.{Operator}
use Rattle.program.specs.declared.node.ExpressionNode.{ExpressionNode}
use Rattle.program.specs.declared.node.ExpressionNode.TheVariants.{Plain, OfValue, OfNumbers}
use Rattle.program.specs.declared.node.ExpressionNode.TheVariants.{Choose}
use Rattle.program.specs.declared.node.StatementNode.{StatementNode}

abbrev pub expression_node_of : ExpressionKind → ℕ → ℕ → ℕ → ℕ → ExpressionNode
expression_node_of E.Number s a b c = Plain (Leaf.Number a)
expression_node_of E.Truth s a b c = Plain (Leaf.Truth s)
expression_node_of E.Variable s a b c = Plain (Leaf.Variable s)
expression_node_of E.SharedCell s a b c = Plain (Leaf.SharedCell s)
expression_node_of E.NewCell s a b c = OfValue (Make (record { number = s })) a
expression_node_of E.Content s a b c = OfValue Read a
expression_node_of E.Sum s a b c = OfNumbers Operator.Sum a b
expression_node_of E.Less s a b c = OfNumbers Operator.Less a b
expression_node_of E.Choose s a b c = Choose a b c

abbrev pub expression_node_in : Kind → Frame → ExpressionNode
expression_node_in Header f = Plain (Leaf.Number 0)
expression_node_in (Declared d) f = Plain (Leaf.Number 0)
expression_node_in Module f = Plain (Leaf.Number 0)
expression_node_in (Statement k) f = Plain (Leaf.Number 0)
expression_node_in (Expression k) f = expression_node_of k f.s f.a f.b f.c
expression_node_in Unknown f = Plain (Leaf.Number 0)

abbrev pub expression_node : Frame → ExpressionNode
expression_node f = expression_node_in f.kind f

abbrev pub statement_node_of : StatementKind → ℕ → ℕ → ℕ → ℕ → StatementNode
statement_node_of S.Nothing s a b c = StatementNode.Nothing
statement_node_of S.Then s a b c = StatementNode.Seq a b
statement_node_of S.DoAt s a b c = StatementNode.DoAt (record { number = s }) a
statement_node_of S.Start s a b c = StatementNode.Start s a b
statement_node_of S.StartWait s a b c = StatementNode.StartWait s a b
statement_node_of S.Cooperate s a b c = StatementNode.Cooperate
statement_node_of S.Let s a b c = StatementNode.LetIn a b
statement_node_of S.Store s a b c = StatementNode.Store a b
statement_node_of S.If s a b c = StatementNode.IfElse a b c
statement_node_of S.While s a b c = StatementNode.While a b
statement_node_of S.Generate s a b c = StatementNode.Generate s
statement_node_of S.Await s a b c = StatementNode.Await s

abbrev pub statement_node_in : Kind → Frame → StatementNode
statement_node_in Header f = StatementNode.Nothing
statement_node_in (Declared d) f = StatementNode.Nothing
statement_node_in Module f = StatementNode.Nothing
statement_node_in (Statement k) f = statement_node_of k f.s f.a f.b f.c
statement_node_in (Expression k) f = StatementNode.Nothing
statement_node_in Unknown f = StatementNode.Nothing

abbrev pub statement_node : Frame → StatementNode
statement_node f = statement_node_in f.kind f
