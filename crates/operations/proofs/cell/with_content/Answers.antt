-- `with_content` meets its contract.
use Rattle.std.proofs.Common.{rules}
use Rattle.machine.proofs.ValueWords.{cell_of}
use Rattle.operations.proofs.cell.with_content.Goals as goal

pub returns : goal.returns
returns c = search (cell_of, rules)
