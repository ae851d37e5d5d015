use Prim.Native.Nat.{◌<◌, ◌≤◌, suc}
use Rattle.language.specs.Limits.{most_depth, most_lines}
use Rattle.forest.proofs.Climbing.{Climbing}
use Rattle.forest.proofs.depth.is_deep.Given as goal

abbrev pub invariant-loop-above : goal.invariant-loop-above
invariant-loop-above l =
    (l._above ≤ suc most_depth) × (l.at < most_lines) × Climbing l.users l.j l.at l._above
