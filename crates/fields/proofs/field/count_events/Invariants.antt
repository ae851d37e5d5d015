use Prim.Native.Nat.{◌≤◌}
use Rattle.fields.proofs.Events.{CountingEvents}
use Rattle.fields.proofs.field.count_events.Given as goal

abbrev pub invariant-loop-line : goal.invariant-loop-line
invariant-loop-line l = (l.n ≤ l.line-index) × CountingEvents l.words l.line-index l.n
