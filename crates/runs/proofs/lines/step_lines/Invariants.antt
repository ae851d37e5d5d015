use Rattle.runs.proofs.ListingLoop.{Lining}
use Rattle.runs.proofs.lines.step_lines.Given as goal

abbrev pub invariant-loop-k : goal.invariant-loop-k
invariant-loop-k l =
    Lining l.frames l.bytes l.n l.initial.state l.state l.initial.out l.out l.k
