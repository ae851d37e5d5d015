-- `unlist` meets its contract.
use Rattle.commits.proofs.FollowLaws.{unlist_laws}
use Rattle.commits.proofs.commit.unlist.Goals as goal

pub returns-then-leaves : goal.returns-then-leaves
returns-then-leaves c = search unlist_laws

pub returns-else-leaves : goal.returns-else-leaves
returns-else-leaves c = search unlist_laws
