-- `link` meets its contract.
use Rattle.std.proofs.Common.{rules}
use lib.ListN.{length-set}
use Rattle.language.proofs.LabelLaws.{map_start, map_more, map_end}
use Rattle.language.proofs.group.link.Goals as goal

pub loop-k-init : goal.loop-k-init
loop-k-init c = (search rules, search rules, search map_start)

pub loop-k-preserved : goal.loop-k-preserved
loop-k-preserved c = (search rules, simp length-set (search rules), search map_more)

pub returns : goal.returns
returns c = search map_end
