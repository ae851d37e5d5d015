-- `enlist` meets its contract.
use borrow.Author.Rules.{rules}
use Rattle.commits.proofs.FollowLaws.{enlist_laws, join_needs, start_needs, wake_needs}
use Rattle.commits.proofs.commit.enlist.Goals as goal

pub join-requires : goal.join-requires
join-requires c = search join_needs

pub start-requires : goal.start-requires
start-requires c = (search rules, search start_needs)

pub generate-requires : goal.generate-requires
generate-requires c = search wake_needs

pub returns-in-Join : goal.returns-in-Join
returns-in-Join c = search enlist_laws

pub returns-in-Start : goal.returns-in-Start
returns-in-Start c = search enlist_laws

pub returns-in-Wake : goal.returns-in-Wake
returns-in-Wake c = search enlist_laws
