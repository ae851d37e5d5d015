-- `decide_await` meets its contract.
use Rattle.std.proofs.Common.{◌∙◌}
use Rattle.acts.proofs.Raised.{found_as, raised}
use Rattle.commits.proofs.SignalLaws.{await_missing, await_refused, await_passes, await_suspends}
use Rattle.commits.proofs.SignalLaws.{event_small}
use Rattle.commits.proofs.signal.decide_await.Goals as goal

pub returns-in_err-owner : goal.returns-in_err-owner
returns-in_err-owner c =
    let found = found_as _ _ _ _ c.ok_or.ensures.value c.event_at.ensures in
    raised _ _ c.from_residual.ensures.1
    ∙ await_missing _ _ _ _ _ _ _ found _ c.in_err-owner.was

pub has_await_room-room-requires : goal.has_await_room-room-requires
has_await_room-room-requires c =
    let found = found_as _ _ _ _ c.ok_or.ensures.value c.event_at.ensures in
    event_small _ _ _ _ found c.requires.1 c.in_ok-owner.was

pub returns-in_err-signal_obstacle : goal.returns-in_err-signal_obstacle
returns-in_err-signal_obstacle c =
    let found = found_as _ _ _ _ c.ok_or.ensures.value c.event_at.ensures in
    raised _ _ c.from_residual-in_err-signal_obstacle.ensures.1
    ∙ await_refused _ _ _ _ _ _ _ found _ c.in_ok-owner.was _ c.has_await_room-room.ensures _
    c.signal_obstacle.ensures _ c.in_err-signal_obstacle.was

pub is_present-requires : goal.is_present-requires
is_present-requires c =
    let found = found_as _ _ _ _ c.ok_or.ensures.value c.event_at.ensures in
    event_small _ _ _ _ found c.requires.1 c.in_ok-owner.was

pub returns-then-is_present : goal.returns-then-is_present
returns-then-is_present c =
    let found = found_as _ _ _ _ c.ok_or.ensures.value c.event_at.ensures in
    await_passes _ _ _ _ _ _ _ found _ c.in_ok-owner.was _ c.has_await_room-room.ensures _
    c.signal_obstacle.ensures c.in_ok-signal_obstacle.was _ c.is_present.ensures
    c.if-is_present.true

pub returns : goal.returns
returns c =
    let found = found_as _ _ _ _ c.ok_or.ensures.value c.event_at.ensures in
    await_suspends _ _ _ _ _ _ _ found _ c.in_ok-owner.was _ c.has_await_room-room.ensures _
    c.signal_obstacle.ensures c.in_ok-signal_obstacle.was _ c.is_present.ensures
    c.if-is_present.false
