use Prim.Native.Nat.{◌≤◌, ◌-◌}
use Rattle.forest.specs.Inner.Walks.{marks_of}
use Rattle.forest.proofs.CycleReach.{Looking}
use Rattle.forest.proofs.cycle.on_cycle.Given as goal

abbrev pub invariant-loop-k : goal.invariant-loop-k
invariant-loop-k l =
    (l.met.filled ≤ 1024) × Looking l.lines.words.now l.i (marks_of l.met.marks) l.met.queue l.met.filled l.k

abbrev pub decreases-loop-k : goal.decreases-loop-k
decreases-loop-k l = 1024 - l.k
