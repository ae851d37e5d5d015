-- `read_cell` meets its contract.
use Rattle.std.proofs.Common.{refl, rules}
use Rattle.operations.proofs.Operations.{read_none, read_is}
use Rattle.operations.proofs.operation.read_cell.Goals as goal

pub returns-in_default : goal.returns-in_default
returns-in_default c = record { found = search read_none; rest = refl }

pub returns : goal.returns
returns c = record { found = search (read_is, rules); rest = search rules }
