-- `form_of` meets its contract.
use mathlib.Core.Path.{sym, ◌∙◌}
use Rattle.std.proofs.lemmas.Result.{err_from_is_err_and}
use Rattle.fields.proofs.Finds.{found_none}
use Rattle.forest.proofs.FormAnswers.{form_21, form_6, form_7}
use Rattle.forest.proofs.form_of.Goals as goal

pub depth_fault-requires : goal.depth_fault-requires
depth_fault-requires c = (
  sym c.tree_fault.ensures ∙ found_none _ _ c.in_ok-refused_at.was c.refused_at.ensures,
  sym c.shape_fault.ensures ∙ found_none _ _ c.in_ok-refused_at-2.was c.refused_at-2.ensures,
)

pub returns-in_err-refused_at : goal.returns-in_err-refused_at
returns-in_err-refused_at c =
    let p = err_from_is_err_and c.from_residual.result c.from_residual.ensures.1 in
    rw (p.1, p.2)
    (form_21 _ _ c.tree_fault.ensures _ c.refused_at.ensures _ c.in_err-refused_at.was)

pub returns-in_err-refused_at-2 : goal.returns-in_err-refused_at-2
returns-in_err-refused_at-2 c =
    let r = c.from_residual-in_err-refused_at-2 in
    let p = err_from_is_err_and r.result r.ensures.1 in
    rw (p.1, p.2)
    (form_6 _ _ c.tree_fault.ensures _ c.refused_at.ensures c.in_ok-refused_at.was
    _ c.shape_fault.ensures _ c.refused_at-2.ensures _ c.in_err-refused_at-2.was)

pub returns : goal.returns
returns c =
    form_7 _ _ c.tree_fault.ensures _ c.refused_at.ensures c.in_ok-refused_at.was
    _ c.shape_fault.ensures _ c.refused_at-2.ensures c.in_ok-refused_at-2.was
    _ c.depth_fault.ensures _ c.refused_at-3.ensures
