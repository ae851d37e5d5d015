-- `enter` meets its contract.
use Rattle.commits.proofs.ChangeLaws.{entered, back_fits}
use Rattle.commits.proofs.change.enter.Goals as goal

pub overflow_add-from-2 : goal.overflow_add-from-2
overflow_add-from-2 c = record { fits = search back_fits }

pub returns : goal.returns
returns c = search entered
