-- `push_let` meets its contract.
use Rattle.commits.proofs.ChangeLaws.{pushed_let_room, pushed_let}
use borrow.Author.Rules.{rules}
use Rattle.commits.proofs.change.push_let.Goals as goal

pub push_two-requires : goal.push_two-requires
push_two-requires c = (search rules, search pushed_let_room)

pub returns : goal.returns
returns c = search pushed_let
