-- `group_set` meets its contract.
use Rattle.std.proofs.Common.{rules}
use Rattle.language.proofs.LabelLaws.{gather_start, gather_one, gather_other, gather_end}
use Rattle.language.proofs.group.group_set.Goals as goal

pub loop-k-init : goal.loop-k-init
loop-k-init c = (search rules, search gather_start)

pub loop-k-preserved-then-labels-k : goal.loop-k-preserved-then-labels-k
loop-k-preserved-then-labels-k c = (search rules, search gather_one)

pub loop-k-preserved : goal.loop-k-preserved
loop-k-preserved c = (search rules, search gather_other)

pub returns : goal.returns
returns c = search gather_end
