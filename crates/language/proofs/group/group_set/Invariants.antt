use Prim.Native.Nat.{◌≤◌}
use Rattle.language.proofs.LabelLaws.{Gathered}
use Rattle.language.proofs.group.group_set.Given as goal

abbrev pub invariant-loop-k : goal.invariant-loop-k
invariant-loop-k l = (l.k ≤ 8) × Gathered l.labels l.own l.set l.k
