-- `stores_after` meets its contract.
use Rattle.std.proofs.Common.{◌∙◌}
use Rattle.acts.proofs.Raised.{raised}
use Rattle.turns.proofs.AfterRows.{after_refused, after_is}
use Rattle.turns.specs.Inner.Actions.{store_after}
use Rattle.turns.proofs.evaluated.stores_after.Goals as goal

pub returns-in_err-value_of : goal.returns-in_err-value_of
returns-in_err-value_of c =
    raised _ _ c.from_residual.ensures.1
    ∙ after_refused _ _ c.value_of.ensures store_after _ c.in_err-value_of.was

pub returns : goal.returns
returns c =
    after_is _ _ c.value_of.ensures store_after _ _ c.in_ok-value_of.was c.comes_to.ensures
