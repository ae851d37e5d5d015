-- `end_instant` meets its contract.
use borrow.Author.Rules.{rules}
use Rattle.lists.proofs.PartitionLaws.{idle_room, instant_count, instant_words}
use Rattle.lists.proofs.list.end_instant.Goals as goal

pub move_entries-requires : goal.move_entries-requires
move_entries-requires c = (search rules, search rules, search idle_room)

pub returns : goal.returns
returns c = record { count = search instant_count; words = search instant_words }
