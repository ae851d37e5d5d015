-- `then_use` meets its contract.
use Rattle.std.proofs.Common.{rules}
use Rattle.operations.proofs.Chains.{using_row}
use Rattle.operations.proofs.operation.then_use.Goals as goal

pub returns-in-Make : goal.returns-in-Make
returns-in-Make c = record { found = search using_row; rest = search rules }

pub returns-in-Read : goal.returns-in-Read
returns-in-Read c = record { found = search using_row; rest = search rules }
