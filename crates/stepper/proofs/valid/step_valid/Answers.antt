-- `step_valid` meets its contract.
use mathlib.Core.Path.{ap}
use Rattle.stepper.proofs.GoodWords.{threads_few}
use Rattle.stepper.proofs.PartyLaws.{acting_asks, acting_steps, nobody_steps, idle_place}
use Rattle.stepper.proofs.PartyLaws.{idle_asks, idle_steps, answered}
use Rattle.stepper.specs.declared.file.File.{File}
use mathlib.Core.Bool.{not}
use Rattle.stepper.proofs.valid.step_valid.Goals as goal

pub acting_thread-t-requires : goal.acting_thread-t-requires
acting_thread-t-requires c =
    threads_few _ _ _ c.requires.0

pub turn-requires : goal.turn-requires
turn-requires c =
    let t = c.acting_thread-t.ensures in
    let a = acting_asks _ _ _ c.requires.0 _ _ c.requires.1 _ t c.if-t-ne0.true in
    (c.requires.0, a.0, a.1, a.2, ap (λ (x : File). x.schedulers) c.requires.1)

pub returns-then-t-ne0 : goal.returns-then-t-ne0
returns-then-t-ne0 c =
    acting_steps _ _ _ c.requires.0 _ _ c.requires.1 _ c.acting_thread-t.ensures c.if-t-ne0.true
    _ c.turn.ensures

pub returns-then-not-is_scheduler_in_file : goal.returns-then-not-is_scheduler_in_file
returns-then-not-is_scheduler_in_file c =
    answered _ _ _ _ c.nobody.ensures
    (nobody_steps _ _ _ c.requires.0 _ _ c.requires.1 _ c.acting_thread-t.ensures c.if-t-ne0.false
    _ c.is_scheduler_in_file.ensures (ap not c.if-not-is_scheduler_in_file.true))

pub known-requires : goal.known-requires
known-requires c =
    idle_place _ _ _ c.requires.0 _ _ c.requires.1 _ c.acting_thread-t.ensures c.if-t-ne0.false
    _ c.is_scheduler_in_file.ensures (ap not c.if-not-is_scheduler_in_file.false)

pub end_instant-requires : goal.end_instant-requires
end_instant-requires c =
    idle_asks _ _ _ c.requires.0 _ _ c.requires.1 _ c.acting_thread-t.ensures c.if-t-ne0.false
    _ c.is_scheduler_in_file.ensures (ap not c.if-not-is_scheduler_in_file.false) _ c.known.ensures

pub returns : goal.returns
returns c =
    idle_steps _ _ _ c.requires.0 _ _ c.requires.1 _ c.acting_thread-t.ensures c.if-t-ne0.false
    _ c.is_scheduler_in_file.ensures (ap not c.if-not-is_scheduler_in_file.false) _ c.known.ensures
    _ c.end_instant.ensures
