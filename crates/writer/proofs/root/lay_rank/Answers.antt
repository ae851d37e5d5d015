-- `lay_rank` meets its contract.
use Rattle.writer.proofs.Roots.{laying_start, laying_room, laying_more, laying_end}
use Rattle.writer.proofs.Roots.{laying_next}
use borrow.Author.Rules.{rules}
use Rattle.writer.proofs.root.lay_rank.Goals as goal

pub loop-i-init : goal.loop-i-init
loop-i-init c = search laying_start

pub lay_root-next-requires : goal.lay_root-next-requires
lay_root-next-requires c = (search rules, search rules, search rules, search laying_room)

pub loop-i-preserved : goal.loop-i-preserved
loop-i-preserved c = search laying_more

pub returns : goal.returns
returns c = record { written = search laying_end; next = search laying_next }
