use Rattle.std.proofs.Common.{◌≡◌, ◌≤◌, length, []}
use Rattle.program.proofs.MainLaws.{parts_from}
use Rattle.program.proofs.module.main_body.Given as goal

abbrev pub invariant-loop-k : goal.invariant-loop-k
invariant-loop-k l = (l.k ≤ length l.frames) × (parts_from l.frames l.k ≡ [])
