-- `pair_first` meets its contract.
use borrow.Author.Rules.{rules}
use Rattle.layout.proofs.DisorderPass.{row_within, pair_none, pair_some}
use Rattle.layout.proofs.in_order.Trees.pair_first.Goals as goal

pub returns-in_err-middle : goal.returns-in_err-middle
returns-in_err-middle c =
    pair_none _ _ _ _ _ _ _ _ _ c.from_residual.ensures c.in_err-middle.was c.child_first.ensures

pub child_first-requires-2 : goal.child_first-requires-2
child_first-requires-2 c = search (row_within, rules)

pub returns : goal.returns
returns c =
    pair_some _ _ _ _ _ _ _ _ _ _ c.in_ok-middle.was c.child_first.ensures c.child_first-2.ensures
