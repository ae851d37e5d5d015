-- `clear_events` meets its contract.
use Rattle.states.proofs.EventLaws.{clearing_none, clearing_start, clearing_other}
use Rattle.states.proofs.EventLaws.{clearing_event, clearing_done, clearing_end}
use Rattle.states.proofs.event.clear_events.Goals as goal
use Rattle.states.proofs.event.clear_events.Goals.{then-line_declares, else-line_declares}

pub returns-then-none_present : goal.returns-then-none_present
returns-then-none_present c = search clearing_none

pub loop-line-init : goal.loop-line-init
loop-line-init c = search clearing_start

pub returns-then-events-e : goal.returns-then-events-e
returns-then-events-e c = search clearing_done

pub loop-line-preserved : goal.loop-line-preserved
loop-line-preserved c = elim c.if-line_declares.branch [
  | then-line_declares w ↦ rw (w.state-is, w.e-is) (search clearing_event)
  | else-line_declares w ↦ rw (w.state-is, w.e-is) (search clearing_other)
]

pub returns : goal.returns
returns c = search clearing_end
