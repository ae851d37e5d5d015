-- `misplaced` meets its contract.
use mathlib.Core.Path.{refl}
use Rattle.layout.proofs.OrderPass.{highest_start, highest_next}
use Rattle.layout.proofs.OrderPass.{misplaced_here, misplaced_next, misplaced_end}
use Rattle.layout.proofs.in_order.misplaced.Goals as goal

pub loop-i-init : goal.loop-i-init
loop-i-init c = (search highest_start, refl)

pub returns-then-is_late : goal.returns-then-is_late
returns-then-is_late c = search misplaced_here

pub loop-i-preserved : goal.loop-i-preserved
loop-i-preserved c = (search highest_next, search misplaced_next)

pub returns : goal.returns
returns c = search misplaced_end
