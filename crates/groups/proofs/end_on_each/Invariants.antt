use Prim.Native.Nat.{◌+◌}
use Rattle.groups.proofs.MemberLaws.{Ending}
use Rattle.groups.proofs.end_on_each.Given as goal

abbrev pub invariant-loop-k : goal.invariant-loop-k
invariant-loop-k l =
    Ending l.schedulers.labels l.initial.state l.q.number l.schedulers.count (2 + l.schedulers.count) l.living l.state l.ready l.k
