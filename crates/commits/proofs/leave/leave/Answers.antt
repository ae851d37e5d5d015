-- `leave` meets its contract.
use Rattle.commits.proofs.WritingLaws.{chosen_scheduler, left_laws}
use Rattle.commits.proofs.leave.leave.Goals as goal

pub drop_first-requires : goal.drop_first-requires
drop_first-requires c = search chosen_scheduler

pub returns-in-Some : goal.returns-in-Some
returns-in-Some c = search left_laws

pub returns-in_default : goal.returns-in_default
returns-in_default c = search left_laws
