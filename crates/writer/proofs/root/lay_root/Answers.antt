-- `lay_root` meets its contract.
use Rattle.writer.proofs.Roots.{root_tree, root_room, root_written, root_next}
use Rattle.writer.proofs.Roots.{no_written, no_next}
use Rattle.writer.proofs.root.lay_root.Goals as goal

pub emit-requires : goal.emit-requires
emit-requires c = (search root_tree, search root_room)

pub returns-then-rank_of-rank : goal.returns-then-rank_of-rank
returns-then-rank_of-rank c = record { written = search root_written; next = search root_next }

pub returns-else-rank_of-rank : goal.returns-else-rank_of-rank
returns-else-rank_of-rank c = record { written = search no_written; next = search no_next }
