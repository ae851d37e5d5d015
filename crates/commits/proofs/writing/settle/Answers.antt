-- `settle` meets its contract.
use Rattle.commits.proofs.WritingLaws.{settle_values, settle_place, settle_room, settled}
use borrow.Author.Rules.{rules}
use Rattle.commits.proofs.writing.settle.Goals as goal

pub change_thread-requires : goal.change_thread-requires
change_thread-requires c =
    ((search rules, search settle_place, search settle_room), search settle_values)

pub returns : goal.returns
returns c = search settled
