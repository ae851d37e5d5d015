-- `move_entries` meets its contract.
use borrow.Author.Rules.{rules}
use Rattle.lists.proofs.PartitionLaws.{next_short, room_here, moved_small, wanted_few}
use Rattle.lists.proofs.PartitionLaws.{moved_count, moved_words}
use Rattle.lists.proofs.list.move_entries.Goals as goal

pub partition_entries-r-requires : goal.partition_entries-r-requires
partition_entries-r-requires c =
    ((search rules, search next_short), search rules, search room_here)

pub overflow_add-state : goal.overflow_add-state
overflow_add-state c = search (moved_small, rules)

pub overflow_sub-state : goal.overflow_sub-state
overflow_sub-state c = search wanted_few

pub returns : goal.returns
returns c = record { count = search moved_count; words = search moved_words }
