-- `then_store` meets its contract.
use Rattle.std.proofs.Common.{refl, rules}
use Rattle.operations.proofs.Chains.{then_refused, then_is}
use Rattle.operations.proofs.operation.then_store.Goals as goal

pub returns-in_default : goal.returns-in_default
returns-in_default c = record { found = search then_refused; rest = refl }

pub returns : goal.returns
returns c = record { found = search then_is; rest = search rules }
