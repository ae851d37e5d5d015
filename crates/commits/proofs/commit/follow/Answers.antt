-- `follow` meets its contract.
use Rattle.commits.proofs.FollowLaws.{still_follows, followed}
use borrow.Author.Rules.{rules}
use Rattle.commits.proofs.commit.follow.Goals as goal

pub enlist-requires : goal.enlist-requires
enlist-requires c = (search rules, search still_follows)

pub returns : goal.returns
returns c = search followed
