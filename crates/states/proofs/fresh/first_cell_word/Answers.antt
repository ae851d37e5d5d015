-- `first_cell_word` meets its contract.
use Rattle.machine.proofs.ValueWords.{cell_made}
use Rattle.states.proofs.fresh.first_cell_word.Goals as goal

pub returns : goal.returns
returns c =
    let made = rw c.from.ensures at c.cell_word.ensures in
    search cell_made
