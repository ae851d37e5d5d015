use Prim.Native.Nat.{◌≤◌}
use lib.ListN.{get_or}
use Rattle.lists.specs.Inner.Lists.{is_wanted}
use Rattle.lists.proofs.PartitionLaws.{Partitioning}
use Rattle.lists.proofs.list.partition_entries.Given as goal

abbrev pub invariant-loop-j : goal.invariant-loop-j
invariant-loop-j l =
    (l.r ≤ l.j)
    × Partitioning (is_wanted l.wanted) l.initial.state l.active (get_or l.initial.state l.active 0) l.state l.r l.j
