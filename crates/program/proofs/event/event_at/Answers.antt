-- `event_at` meets its contract.
use Rattle.program.proofs.EventLaws.{event_there, event_nowhere}
use Rattle.program.proofs.event.event_at.Goals as goal

pub returns-in_err-f : goal.returns-in_err-f
returns-in_err-f c =
    event_nowhere _ _ _ c.frame_numbered.ensures _ c.from_residual.ensures c.in_err-f.was

pub returns : goal.returns
returns c = event_there _ _ _ c.frame_numbered.ensures _ c.in_ok-f.was
