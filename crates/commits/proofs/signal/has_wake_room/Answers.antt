-- `has_wake_room` meets its contract.
use borrow.Author.Rules.{rules}
use Rattle.commits.proofs.SignalLaws.{wake_none, wake_room, owner_group}
use Rattle.commits.proofs.signal.has_wake_room.Goals as goal

pub room_on_each-requires : goal.room_on_each-requires
room_on_each-requires c = (search owner_group, search rules)

pub returns-in-Some : goal.returns-in-Some
returns-in-Some c =
    let read = rw c.from.ensures at c.scheduler.ensures in
    search (wake_none, wake_room)

pub returns-in-None : goal.returns-in-None
returns-in-None c =
    let read = rw c.from.ensures at c.scheduler.ensures in
    search (wake_none, wake_room)
