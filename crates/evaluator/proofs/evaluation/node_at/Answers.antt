-- `node_at` meets its contract.
use borrow.Author.Rules.{rules}
use Rattle.evaluator.proofs.Nodes.{node_read, frame_named}
use Rattle.evaluator.proofs.evaluation.node_at.Goals as goal

pub expression_node-requires : goal.expression_node-requires
expression_node-requires c =
    let read = rw c.from.ensures at c.frame_of_word.ensures in search frame_named

pub returns : goal.returns
returns c =
    let read = rw c.from.ensures at c.frame_of_word.ensures in search (node_read, rules)
