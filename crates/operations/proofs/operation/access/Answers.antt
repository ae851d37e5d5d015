-- `access` meets its contract.
use Rattle.std.proofs.Common.{refl, rules}
use Rattle.operations.proofs.Operations.{access_missing, access_foreign, access_is}
use Rattle.operations.proofs.InState.{rest_kept}
use Rattle.operations.proofs.operation.access.Goals as goal

pub returns-then-cells_in-j : goal.returns-then-cells_in-j
returns-then-cells_in-j c = record { found = search (access_missing, rules); rest = refl }

pub returns-then-not-is_own : goal.returns-then-not-is_own
returns-then-not-is_own c = record { found = search (access_foreign, rules); rest = search (rest_kept, rules) }

pub returns : goal.returns
returns c = record { found = search (access_is, rules); rest = search (rest_kept, rules) }
