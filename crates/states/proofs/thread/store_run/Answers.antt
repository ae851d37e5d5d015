-- `store_run` meets its contract.
use Rattle.machine.proofs.WordLaws.{pasted_zero, pasted_more}
use mathlib.Core.Path.{refl}
use native.Mathlib.Omega.{arith}
use Rattle.states.proofs.thread.store_run.Goals as goal

pub loop-k-init : goal.loop-k-init
loop-k-init c = pasted_zero _ _ _

pub loop-k-preserved : goal.loop-k-preserved
loop-k-preserved c = pasted_more _ _ _ _ _ _ c.loop-k.invariant refl (omega arith) (omega arith)
