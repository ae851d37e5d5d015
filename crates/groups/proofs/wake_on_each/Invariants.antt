use Prim.Native.Nat.{◌+◌}
use Rattle.groups.proofs.MemberLaws.{Waking}
use Rattle.groups.proofs.wake_on_each.Given as goal

abbrev pub invariant-loop-k : goal.invariant-loop-k
invariant-loop-k l =
    Waking l.schedulers.labels l.initial.state l.q.number l.schedulers.count (2 + l.schedulers.count) l.e l.state l.k
