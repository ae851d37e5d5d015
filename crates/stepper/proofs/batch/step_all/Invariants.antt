use Rattle.stepper.proofs.BatchLaws.{Stepping}
use Rattle.stepper.proofs.batch.step_all.Given as goal

abbrev pub invariant-loop-k : goal.invariant-loop-k
invariant-loop-k l =
    Stepping l.frames l.file.shared l.choices l.initial.state l.state l.initial.answers l.answers l.k
