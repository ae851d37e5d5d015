-- `end_instant` meets its contract.
use Rattle.stepper.proofs.FileLaws.{file_some}
use Rattle.stepper.proofs.PartyLaws.{answered}
use Rattle.stepper.proofs.InstantLaws.{instant_group, instant_words}
use Rattle.stepper.proofs.InstantLaws.{instant_scheduler, instant_events, instant_busy}
use Rattle.stepper.proofs.InstantLaws.{instant_idle}
use Rattle.stepper.proofs.InstantLaws.{instant_nothing, instant_done}
use Rattle.stepper.proofs.instant.end_instant.Goals as goal

pub any_active-requires : goal.any_active-requires
any_active-requires c =
    instant_group _ _ _ _ c.requires

pub returns-then-any_active : goal.returns-then-any_active
returns-then-any_active c =
    let p = c.requires in
    answered _ _ _ _ c.nobody.ensures
    (instant_busy _ _ _ _ p _ c.any_active.ensures c.if-any_active.true)

pub end_on_each-requires : goal.end_on_each-requires
end_on_each-requires c =
    let p = c.requires in (
      instant_group _ _ _ _ p,
      instant_words _ _ _ _ p,
      instant_idle _ _ _ _ p _ c.any_active.ensures c.if-any_active.false,
    )

pub returns-then-end_on_each-eq0 : goal.returns-then-end_on_each-eq0
returns-then-end_on_each-eq0 c =
    let p = c.requires in
    answered _ _ _ _ c.nobody-then-end_on_each-eq0.ensures
    (instant_nothing _ _ _ _ p _ c.any_active.ensures c.if-any_active.false
    _ _ c.end_on_each.ensures.count c.end_on_each.ensures.words c.if-end_on_each-eq0.true)

pub clear_events-requires : goal.clear_events-requires
clear_events-requires c =
    let p = c.requires in (
      file_some _ p.step.file,
      instant_events _ _ _ _ p,
      instant_scheduler _ _ _ _ p,
    )

pub returns : goal.returns
returns c =
    let p = c.requires in
    answered _ _ _ _ c.nobody-2.ensures
    (instant_done _ _ _ _ p _ c.any_active.ensures c.if-any_active.false
    _ _ c.end_on_each.ensures.count c.end_on_each.ensures.words c.if-end_on_each-eq0.false
    _ c.clear_events.ensures)
