-- `end_if_member` meets its contract.
use borrow.Author.Rules.{rules}
use Rattle.groups.proofs.MemberLaws.{pair_other, list_words}
use Rattle.groups.proofs.MemberLaws.{is_idle_here, none_ready_here, ends_none, ready_here}
use Rattle.groups.proofs.MemberLaws.{ends_here}
use Rattle.groups.proofs.end_if_member.Goals as goal

pub returns-then-not-in_step : goal.returns-then-not-in_step
returns-then-not-in_step c = record { count = search none_ready_here; words = search ends_none }

pub end_instant-requires : goal.end_instant-requires
end_instant-requires c =
    (search list_words, search pair_other, search is_idle_here, search rules)

pub returns : goal.returns
returns c = record { count = search ready_here; words = search ends_here }
