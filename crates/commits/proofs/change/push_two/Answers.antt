-- `push_two` meets its contract.
use Rattle.commits.proofs.ChangeLaws.{pushed_two_room, pushed_two}
use Rattle.std.proofs.Common.{rules, refl}
use Rattle.commits.proofs.change.push_two.Goals as goal

pub push-requires-2 : goal.push-requires-2
push-requires-2 c = (search rules, refl, search pushed_two_room)

pub returns : goal.returns
returns c = search pushed_two
