-- `in_group` meets its contract.
use Rattle.language.proofs.EffectLaws.{group_laws}
use Rattle.language.proofs.effect.in_group.Goals as goal

pub returns-then-set-eq0 : goal.returns-then-set-eq0
returns-then-set-eq0 c = search group_laws

pub returns-then-is_scheduler : goal.returns-then-is_scheduler
returns-then-is_scheduler c = search group_laws

pub returns-else-is_scheduler : goal.returns-else-is_scheduler
returns-else-is_scheduler c = search group_laws
