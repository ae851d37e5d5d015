use Rattle.states.proofs.EventLaws.{Clearing}
use Rattle.states.proofs.event.clear_events.Given as goal

abbrev pub invariant-loop-line : goal.invariant-loop-line
invariant-loop-line l =
    Clearing l.frames l.labels l.initial.state l.q.number l.events l.e l.line-index l.state
