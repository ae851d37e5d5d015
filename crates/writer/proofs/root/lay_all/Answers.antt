-- `lay_all` meets its contract.
use Rattle.writer.proofs.Roots.{laid_start, laid_room, laid_more, laid_end}
use borrow.Author.Rules.{rules}
use Rattle.writer.proofs.root.lay_all.Goals as goal

pub loop-rank-init : goal.loop-rank-init
loop-rank-init c = search laid_start

pub lay_rank-next-requires : goal.lay_rank-next-requires
lay_rank-next-requires c = (search rules, search rules, search laid_room)

pub loop-rank-preserved : goal.loop-rank-preserved
loop-rank-preserved c = search laid_more

pub returns : goal.returns
returns c = search laid_end
