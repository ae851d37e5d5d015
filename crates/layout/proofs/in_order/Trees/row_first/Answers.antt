-- `row_first` meets its contract.
use borrow.Author.Rules.{rules}
use Rattle.layout.proofs.DisorderPass.{row_within, row_none, row_one, row_two, row_last}
use Rattle.layout.proofs.DisorderPass.{row_three}
use Rattle.layout.proofs.in_order.Trees.row_first.Goals as goal

pub returns-in_err-middle-in-Three : goal.returns-in_err-middle-in-Three
returns-in_err-middle-in-Three c = row_last _ _ _ _ c.children_of.ensures _ _ _ _ _ _ _ _ c.in-Three.is c.child_first-in-Three.ensures c.from_residual.ensures c.in_err-middle-in-Three.was

pub pair_first-requires-in-Three : goal.pair_first-requires-in-Three
pair_first-requires-in-Three c = search (row_within, rules)

pub returns-in-Nothing : goal.returns-in-Nothing
returns-in-Nothing c = search row_none

pub returns-in-One : goal.returns-in-One
returns-in-One c = search row_one

pub returns-in-Two : goal.returns-in-Two
returns-in-Two c = search row_two

pub returns-in_ok-middle-in-Three : goal.returns-in_ok-middle-in-Three
returns-in_ok-middle-in-Three c = row_three _ _ _ _ c.children_of.ensures _ _ _ _ _ _ _ _ c.in-Three.is c.child_first-in-Three.ensures _ c.in_ok-middle-in-Three.was c.pair_first-in-Three.ensures
