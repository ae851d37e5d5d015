-- `commit_action` meets its contract.
use Rattle.std.proofs.Common.{rules, ap, ◌∙◌, Ok}
use Rattle.commits.proofs.CommitLaws.{commit_laws, commit_settles, commit_follows, commit_suspends}
use Rattle.commits.proofs.commit.commit_action.Goals as goal

pub settle-requires : goal.settle-requires
settle-requires c =
    let made = c.in-Ok-Settle.is ∙ ap Ok c.in-Ok-Settle.field-0-is in
    search commit_settles

pub follow-requires : goal.follow-requires
follow-requires c =
    let made = c.in-Ok-Settle.is ∙ ap Ok c.in-Ok-Settle.field-0-is in
    (search rules, search commit_follows)

pub suspend-requires : goal.suspend-requires
suspend-requires c =
    let made = c.in-Ok-Suspend.is ∙ ap Ok c.in-Ok-Suspend.field-0-is in
    (search rules, search commit_suspends)

pub returns-in-Ok-Settle : goal.returns-in-Ok-Settle
returns-in-Ok-Settle c =
    let made = c.in-Ok-Settle.is ∙ ap Ok c.in-Ok-Settle.field-0-is in
    search commit_laws

pub returns-in-Ok-Suspend : goal.returns-in-Ok-Suspend
returns-in-Ok-Suspend c =
    let made = c.in-Ok-Suspend.is ∙ ap Ok c.in-Ok-Suspend.field-0-is in
    search commit_laws

pub returns-in-Err : goal.returns-in-Err
returns-in-Err c = search commit_laws
