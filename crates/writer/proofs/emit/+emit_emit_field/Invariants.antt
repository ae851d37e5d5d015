use Prim.Native.Nat.{◌+◌, ◌*◌}
use Prim.Native.Nat.{◌+◌, ◌*◌}
use Rattle.writer.proofs.emit.+emit_emit_field.Given as goal

abbrev pub decreases-emit : goal.decreases-emit
decreases-emit l = 2 * l.levels

abbrev pub decreases-emit_field : goal.decreases-emit_field
decreases-emit_field l = 2 * l.levels + 1
