use Rattle.std.proofs.Common.{◌≡◌, ◌+◌}
use Rattle.program.proofs.SharedTypeLaws.{Collecting}
use Rattle.program.proofs.shared.shared_types.Given as goal

abbrev pub invariant-loop-k : goal.invariant-loop-k
invariant-loop-k l = (l.k ≡ l.count + 1) × Collecting l.frames l.types l.count
