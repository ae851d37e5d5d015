-- `with_member` meets its contract.
use Rattle.language.proofs.EffectLaws.{owner_added, owner_other}
use Rattle.language.proofs.effect.with_member.Goals as goal

pub returns-then-is_scheduler : goal.returns-then-is_scheduler
returns-then-is_scheduler c = search owner_added

pub returns-else-is_scheduler : goal.returns-else-is_scheduler
returns-else-is_scheduler c = search owner_other
