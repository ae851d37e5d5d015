-- `lets_after` meets its contract.
use Rattle.std.proofs.Common.{◌∙◌}
use Rattle.acts.proofs.Raised.{raised}
use Rattle.turns.proofs.AfterRows.{after_refused, after_lets}
use Rattle.turns.specs.Inner.Actions.{let_after}
use Rattle.turns.proofs.evaluated.lets_after.Goals as goal

pub returns-in_err-value : goal.returns-in_err-value
returns-in_err-value c =
    raised _ _ c.from_residual.ensures.1
    ∙ after_refused _ _ c.value_of.ensures (let_after c.args.counts c.args.body) _
    c.in_err-value.was

pub returns : goal.returns
returns c =
    after_lets _ _ c.value_of.ensures _ c.in_ok-value.was _ c.value_word.ensures.0 _ _ _
    c.lets.ensures
