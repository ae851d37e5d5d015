-- `chooses_after` meets its contract.
use Rattle.std.proofs.Common.{◌∙◌, refl}
use Rattle.acts.proofs.Raised.{raised}
use Rattle.turns.proofs.AfterRows.{after_refused, truth_refused, truth_yes, truth_no}
use Rattle.turns.specs.Inner.Actions.{one_more, choose_after}
use Rattle.turns.proofs.evaluated.chooses_after.Goals as goal

pub returns-in_err-value : goal.returns-in_err-value
returns-in_err-value c =
    raised _ _ c.from_residual.ensures.1
    ∙ after_refused _ _ c.value_of.ensures (choose_after c.args.counts c.args.a c.args.b) _
    c.in_err-value.was

pub returns-in_err-truth_in : goal.returns-in_err-truth_in
returns-in_err-truth_in c =
    raised _ _ c.from_residual-in_err-truth_in.ensures.1
    ∙ truth_refused _ _ c.value_of.ensures _ c.in_ok-value.was _ c.truth_in.ensures
    (choose_after c.args.counts c.args.a c.args.b) (one_more c.args.counts c.args.a)
    (one_more c.args.counts c.args.b) refl _ c.in_err-truth_in.was

pub returns-then-branch : goal.returns-then-branch
returns-then-branch c =
    truth_yes _ _ c.value_of.ensures _ c.in_ok-value.was _ c.truth_in.ensures
    (choose_after c.args.counts c.args.a c.args.b) (one_more c.args.counts c.args.a)
    (one_more c.args.counts c.args.b) refl _ c.in_ok-truth_in.was _ c.if-branch.true c.stays_with.ensures

pub returns-else-branch : goal.returns-else-branch
returns-else-branch c =
    truth_no _ _ c.value_of.ensures _ c.in_ok-value.was _ c.truth_in.ensures
    (choose_after c.args.counts c.args.a c.args.b) (one_more c.args.counts c.args.a)
    (one_more c.args.counts c.args.b) refl _ c.in_ok-truth_in.was _ c.if-branch.false c.stays_with-else-branch.ensures
