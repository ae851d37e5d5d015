-- `is_member` meets its contract.
use borrow.Author.Rules.{rules}
use Rattle.language.proofs.LabelLaws.{no_member, read_scheduler, member_by}
use Rattle.language.proofs.group.is_member.Goals as goal

pub in_step-requires : goal.in_step-requires
in_step-requires c = (search rules, search read_scheduler)

pub returns-in-Some : goal.returns-in-Some
returns-in-Some c = search member_by

pub returns-in-None : goal.returns-in-None
returns-in-None c = search no_member
