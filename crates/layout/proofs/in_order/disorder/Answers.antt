-- `disorder` meets its contract.
use mathlib.Core.Path.{refl}
use borrow.Author.Rules.{rules}
use Rattle.layout.proofs.DisorderPass.{disorder_start, backward_start}
use Rattle.layout.proofs.DisorderPass.{backward_next, disorder_here, disorder_next}
use Rattle.layout.proofs.DisorderPass.{disorder_end}
use Rattle.layout.proofs.in_order.disorder.Goals as goal

pub loop-i-init : goal.loop-i-init
loop-i-init c = (refl, search backward_start, search disorder_start)

pub returns-in_default : goal.returns-in_default
returns-in_default c = search disorder_here

pub loop-i-preserved : goal.loop-i-preserved
loop-i-preserved c = (search rules, search backward_next, search disorder_next)

pub returns : goal.returns
returns c = search disorder_end
