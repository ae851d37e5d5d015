-- `decide_generate` meets its contract.
use Rattle.std.proofs.Common.{◌∙◌}
use Rattle.acts.proofs.Raised.{found_as, raised}
use Rattle.commits.proofs.SignalLaws.{generate_missing, generate_refused, generate_passes}
use Rattle.commits.proofs.signal.decide_generate.Goals as goal

pub returns-in_err-owner : goal.returns-in_err-owner
returns-in_err-owner c =
    let found = found_as _ _ _ _ c.ok_or.ensures.value c.event_at.ensures in
    raised _ _ c.from_residual.ensures.1
    ∙ generate_missing _ _ _ _ _ _ _ found _ c.in_err-owner.was

pub returns-in_err-signal_obstacle : goal.returns-in_err-signal_obstacle
returns-in_err-signal_obstacle c =
    let found = found_as _ _ _ _ c.ok_or.ensures.value c.event_at.ensures in
    raised _ _ c.from_residual-in_err-signal_obstacle.ensures.1
    ∙ generate_refused _ _ _ _ _ _ _ found _ c.in_ok-owner.was _ c.has_wake_room-room.ensures _
    c.signal_obstacle.ensures _ c.in_err-signal_obstacle.was

pub returns : goal.returns
returns c =
    let found = found_as _ _ _ _ c.ok_or.ensures.value c.event_at.ensures in
    generate_passes _ _ _ _ _ _ _ found _ c.in_ok-owner.was _ c.has_wake_room-room.ensures _
    c.signal_obstacle.ensures c.in_ok-signal_obstacle.was
