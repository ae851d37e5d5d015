-- `change_thread` meets its contract.
use Rattle.commits.proofs.ChangeLaws.{change_laws, change_room}
use Rattle.std.proofs.Common.{rules, refl}
use Rattle.commits.proofs.change.change_thread.Goals as goal

pub push-requires : goal.push-requires
push-requires c = (search rules, refl, search change_room)

pub push_two-requires : goal.push_two-requires
push_two-requires c = (search rules, search change_room)

pub push_let-requires : goal.push_let-requires
push_let-requires c = (search rules, (search change_room, search change_room))

pub pop-requires : goal.pop-requires
pop-requires c = (search rules, refl, (search change_room, search rules))

pub enter-requires : goal.enter-requires
enter-requires c = (search rules, search rules, search change_room)

pub returns-in-Same : goal.returns-in-Same
returns-in-Same c = search change_laws

pub returns-in-Item : goal.returns-in-Item
returns-in-Item c = search change_laws

pub returns-in-Items : goal.returns-in-Items
returns-in-Items c = search change_laws

pub returns-in-Let : goal.returns-in-Let
returns-in-Let c = search change_laws

pub returns-in-Drop : goal.returns-in-Drop
returns-in-Drop c = search change_laws

pub returns-in-Move : goal.returns-in-Move
returns-in-Move c = search change_laws

pub returns-in-Enter : goal.returns-in-Enter
returns-in-Enter c = search change_laws

pub returns-in-End : goal.returns-in-End
returns-in-End c = search change_laws
