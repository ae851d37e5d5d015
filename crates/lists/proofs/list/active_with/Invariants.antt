use Prim.Native.Nat.{◌+◌, ◌≤◌}
use Rattle.lists.specs.Inner.Lists.{is_awaiting_word}
use Rattle.lists.proofs.PartitionLaws.{Counting}
use Rattle.lists.proofs.list.active_with.Given as goal

abbrev pub invariant-loop-j : goal.invariant-loop-j
invariant-loop-j l =
    (l.threads ≤ l.initial.threads + l.j)
    × Counting (is_awaiting_word l.event) l.state l.next l.initial.threads l.threads l.j
