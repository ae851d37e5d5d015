-- `start` meets its contract.
use Rattle.commits.proofs.StartLaws.{start_alone, start_waited}
use Rattle.commits.proofs.start.start.Goals as goal

pub returns-then-waits : goal.returns-then-waits
returns-then-waits c = search start_waited

pub returns-else-waits : goal.returns-else-waits
returns-else-waits c = search start_alone
