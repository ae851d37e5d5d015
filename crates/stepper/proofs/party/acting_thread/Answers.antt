-- `acting_thread` meets its contract.
use native.Mathlib.Omega.{arith}
use Rattle.stepper.proofs.PartyLaws.{acting_place, acting_list, acting_first, acting_named}
use Rattle.stepper.proofs.PartyLaws.{acting_nobody, named_low}
use Rattle.stepper.proofs.party.acting_thread.Goals as goal

pub known-requires : goal.known-requires
known-requires c = search acting_place

pub first_active-requires : goal.first_active-requires
first_active-requires c = search acting_list

pub returns-then-is_scheduler_in_file : goal.returns-then-is_scheduler_in_file
returns-then-is_scheduler_in_file c = search acting_first

pub overflow_sub-result : goal.overflow_sub-result
overflow_sub-result c =
    let l = named_low _ _ _ c.is_unlinked.ensures c.if-is_unlinked.true in omega arith

pub returns-then-is_unlinked : goal.returns-then-is_unlinked
returns-then-is_unlinked c = search acting_named

pub returns : goal.returns
returns c = search acting_nobody
