-- `leaf` meets its contract.
use Rattle.operations.proofs.Operations.{leaf_number, leaf_truth, leaf_variable, leaf_shared}
use Rattle.operations.proofs.operation.leaf.Goals as goal

pub returns-in-Number : goal.returns-in-Number
returns-in-Number c = search leaf_number

pub returns-in-Truth : goal.returns-in-Truth
returns-in-Truth c = search leaf_truth

pub returns-in-Variable : goal.returns-in-Variable
returns-in-Variable c = search leaf_variable

pub returns-in-SharedCell : goal.returns-in-SharedCell
returns-in-SharedCell c = search leaf_shared
