-- `is_linked` meets its contract.
use Rattle.checker.proofs.EffectLaws.{linked_at}
use Rattle.checker.proofs.effect.is_linked.Goals as goal

pub returns : goal.returns
returns c = search linked_at
