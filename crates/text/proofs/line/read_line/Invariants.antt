use Rattle.std.proofs.Common.{◌≤◌}
use Rattle.text.proofs.LineLaws.{Taking}
use Rattle.text.proofs.line.read_line.Given as goal

abbrev pub invariant-loop-k : goal.invariant-loop-k
invariant-loop-k l = (l.k ≤ 16) × Taking l.bytes l.w l.bits l.k
