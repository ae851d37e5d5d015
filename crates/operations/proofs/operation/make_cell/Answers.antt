-- `make_cell` meets its contract.
use Rattle.std.proofs.Common.{rules}
use Rattle.machine.proofs.ValueWords.{cell_made}
use Rattle.operations.proofs.Operations.{make_is, make_spent, make_foreign}
use Rattle.operations.proofs.InState.{rest_new, rest_kept}
use Rattle.operations.proofs.operation.make_cell.Goals as goal

pub returns-then-used-lt-MOST_CELLS : goal.returns-then-used-lt-MOST_CELLS
returns-then-used-lt-MOST_CELLS c = record { found = search (make_is, cell_made, rules); rest = search (rest_new, rules) }

pub returns-then-is_own : goal.returns-then-is_own
returns-then-is_own c = record { found = search (make_spent, rules); rest = search (rest_kept, rules) }

pub returns : goal.returns
returns c = record { found = search (make_foreign, rules); rest = search (rest_kept, rules) }
