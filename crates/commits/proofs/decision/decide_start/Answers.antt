-- `decide_start` meets its contract.
use Rattle.std.proofs.Common.{◌∙◌, ap}
use mathlib.Core.Bool.{not}
use Rattle.acts.proofs.Raised.{found_as, raised}
use Rattle.commits.proofs.DecisionLaws.{start_missing, start_refused, start_only, start_full}
use Rattle.commits.proofs.DecisionLaws.{start_waits}
use Rattle.commits.proofs.decision.decide_start.Goals as goal
use Rattle.commits.proofs.decision.decide_start.Goals.{else-waits-via-then-waits+else-not-room_at}
use Rattle.commits.proofs.decision.decide_start.Goals.{else-waits-via-else-waits}

pub returns-in_err-found : goal.returns-in_err-found
returns-in_err-found c =
    let found = found_as _ _ _ _ c.ok_or.ensures.value c.module_at.ensures in
    raised _ _ c.from_residual.ensures.1
    ∙ start_missing _ _ _ _ _ _ _ _ found _ c.in_err-found.was

pub returns-in_err-obstacle : goal.returns-in_err-obstacle
returns-in_err-obstacle c =
    let found = found_as _ _ _ _ c.ok_or.ensures.value c.module_at.ensures in
    raised _ _ c.from_residual-in_err-obstacle.ensures.1
    ∙ start_refused _ _ _ _ _ _ _ _ found _ c.in_ok-found.was _ c.place_of-place.ensures _
    c.obstacle.ensures _ c.in_err-obstacle.was

pub returns-then-not-room_at : goal.returns-then-not-room_at
returns-then-not-room_at c =
    let found = found_as _ _ _ _ c.ok_or.ensures.value c.module_at.ensures in
    start_full _ _ _ _ _ _ _ _ found _ c.in_ok-found.was _ c.place_of-place.ensures _
    c.obstacle.ensures c.in_ok-obstacle.was c.if-waits.true _ c.room_at.ensures
    (ap not c.if-not-room_at.true)

pub returns : goal.returns
returns c =
    let found = found_as _ _ _ _ c.ok_or.ensures.value c.module_at.ensures in
    elim c.else-waits.branch [
      | else-waits-via-then-waits+else-not-room_at w ↦
          start_waits _ _ _ _ _ _ _ _ found _ c.in_ok-found.was _ c.place_of-place.ensures _
          c.obstacle.ensures c.in_ok-obstacle.was w.if-waits.true _ w.room_at.ensures
          (ap not w.if-not-room_at.false)
      | else-waits-via-else-waits w ↦
          start_only _ _ _ _ _ _ _ _ found _ c.in_ok-found.was _ c.place_of-place.ensures _
          c.obstacle.ensures c.in_ok-obstacle.was w.if-waits.false
    ]
