-- `list_choices` meets its contract.
use Rattle.runs.proofs.JudgedChoices.{choices_all, choices_few, choices_refused, choices_run_lem}
use Rattle.runs.proofs.printing.list_choices.Goals as goal

pub list_run-requires : goal.list_run-requires
list_run-requires c =
    let j = c.judge.ensures in
    (c.requires, search choices_all, search choices_few)

pub returns-in-Ok : goal.returns-in-Ok
returns-in-Ok c = search choices_run_lem

pub returns-in-Err : goal.returns-in-Err
returns-in-Err c = search choices_refused
