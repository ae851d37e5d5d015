use Prim.Native.Nat.{◌-◌}
use lib.ListN.{length}
use Rattle.states.proofs.SharedLaws.{Sharing}
use Rattle.states.proofs.fresh.write_shared.Given as goal

abbrev pub invariant-loop-i : goal.invariant-loop-i
invariant-loop-i l = Sharing l.frames l.initial.state l.state l.i l.c

abbrev pub decreases-loop-i : goal.decreases-loop-i
decreases-loop-i l = length l.frames - l.i
