-- `layout_of` meets its contract.
use mathlib.Core.Path.{sym, ◌∙◌}
use borrow.Author.Rules.{rules}
use Rattle.std.proofs.lemmas.Result.{err_from_is_err_and}
use Rattle.fields.proofs.FieldLaws.{few_schedulers}
use Rattle.fields.proofs.Finds.{found_none}
use Rattle.layout.proofs.Answers.{laid_4, laid_5, laid_6, laid_7}
use Rattle.layout.proofs.layout_of.Goals as goal

pub fields-requires : goal.fields-requires
fields-requires c = (
  (search rules, few_schedulers _ (sym c.header.ensures ∙ found_none _ _ c.in_ok-refused_at.was c.refused_at.ensures)),
  search rules,
)

pub depth-requires : goal.depth-requires
depth-requires c =
    sym c.order.ensures ∙ found_none _ _ c.in_ok-refused_at-3.was c.refused_at-3.ensures

pub returns-in_err-refused_at : goal.returns-in_err-refused_at
returns-in_err-refused_at c =
    let p = err_from_is_err_and c.from_residual.result c.from_residual.ensures.1 in
    rw (p.1, p.2) (laid_4 _ _ c.header.ensures _ c.refused_at.ensures _ c.in_err-refused_at.was)

pub returns-in_err-refused_at-2 : goal.returns-in_err-refused_at-2
returns-in_err-refused_at-2 c =
    let p = err_from_is_err_and c.from_residual-in_err-refused_at-2.result c.from_residual-in_err-refused_at-2.ensures.1 in
    rw (p.1, p.2) (laid_5 _ _ c.header.ensures _ c.refused_at.ensures c.in_ok-refused_at.was _ c.fields.ensures _ c.refused_at-2.ensures _ c.in_err-refused_at-2.was)

pub returns-in_err-refused_at-3 : goal.returns-in_err-refused_at-3
returns-in_err-refused_at-3 c =
    let p = err_from_is_err_and c.from_residual-in_err-refused_at-3.result c.from_residual-in_err-refused_at-3.ensures.1 in
    rw (p.1, p.2) (laid_6 _ _ c.header.ensures _ c.refused_at.ensures c.in_ok-refused_at.was _ c.fields.ensures _ c.refused_at-2.ensures c.in_ok-refused_at-2.was _ c.order.ensures _ c.refused_at-3.ensures _ c.in_err-refused_at-3.was)

pub returns : goal.returns
returns c = laid_7 _ _ c.header.ensures _ c.refused_at.ensures c.in_ok-refused_at.was _ c.fields.ensures _ c.refused_at-2.ensures c.in_ok-refused_at-2.was _ c.order.ensures _ c.refused_at-3.ensures c.in_ok-refused_at-3.was _ c.depth.ensures _ c.refused_at-4.ensures
