-- `wake_if_member` meets its contract.
use Rattle.groups.proofs.MemberLaws.{pair_other, list_words}
use Rattle.groups.proofs.MemberLaws.{has_room_here, wakes_none, wakes_here}
use Rattle.groups.proofs.wake_if_member.Goals as goal

pub returns-else-in_step : goal.returns-else-in_step
returns-else-in_step c = search wakes_none

pub wake-requires : goal.wake-requires
wake-requires c = (search list_words, search pair_other, search has_room_here)

pub returns-then-in_step : goal.returns-then-in_step
returns-then-in_step c = search wakes_here
