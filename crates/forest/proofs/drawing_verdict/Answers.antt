-- `drawing_verdict` meets its contract.
use mathlib.Core.Path.{sym, ◌∙◌}
use borrow.Author.Rules.{rules}
use Rattle.std.proofs.lemmas.Result.{err_from_is_err_and}
use Rattle.fields.proofs.FieldLaws.{few_schedulers}
use Rattle.fields.proofs.Finds.{found_none}
use Rattle.forest.proofs.FormAnswers.{drawing_4, drawing_5, drawing_form}
use Rattle.forest.proofs.drawing_verdict.Goals as goal

pub fields-requires : goal.fields-requires
fields-requires c = (
  (
    search rules,
    few_schedulers _
        (sym c.header.ensures ∙ found_none _ _ c.in_ok-refused_at.was c.refused_at.ensures),
  ),
  search rules,
)

pub returns-in_err-refused_at : goal.returns-in_err-refused_at
returns-in_err-refused_at c =
    let p = err_from_is_err_and c.from_residual.result c.from_residual.ensures.1 in
    rw (p.1, p.2) (drawing_4 _ _ c.header.ensures _ c.refused_at.ensures _ c.in_err-refused_at.was)

pub returns-in_err-refused_at-2 : goal.returns-in_err-refused_at-2
returns-in_err-refused_at-2 c =
    let r = c.from_residual-in_err-refused_at-2 in
    let p = err_from_is_err_and r.result r.ensures.1 in
    rw (p.1, p.2)
    (drawing_5 _ _ c.header.ensures _ c.refused_at.ensures c.in_ok-refused_at.was
    _ c.fields.ensures _ c.refused_at-2.ensures _ c.in_err-refused_at-2.was)

pub returns : goal.returns
returns c =
    drawing_form _ _ c.header.ensures _ c.refused_at.ensures c.in_ok-refused_at.was
    _ c.fields.ensures _ c.refused_at-2.ensures c.in_ok-refused_at-2.was _ c.form_of.ensures
