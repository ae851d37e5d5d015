use mathlib.Core.Path.{◌≡◌}
use Rattle.machine.specs.Inner.Blocks.{pasted}
use Rattle.states.proofs.thread.store_run.Given as goal

abbrev pub invariant-loop-k : goal.invariant-loop-k
invariant-loop-k l = l.state ≡ pasted l.initial.state l.at l.run l.k
