-- `lay_into` meets its contract.
use Rattle.std.proofs.Common.{ap, sym, ◌∙◌, Ok}
use Rattle.std.proofs.lemmas.Result.{err_from_is_err_and}
use Rattle.layout.proofs.Answers.{lines_fit, lines_count, lines_some, lines_few, laid_refused, laid_rejected}
use Rattle.layout.proofs.Answers.{laid_lines}
use Rattle.layout.proofs.Judged.{judged_refused, judged_rejected, judged_lines}
use Rattle.layout.proofs.lay_into.Goals as goal

-- the reader gave so many lines
pub slice_bounds-layout_of-end : goal.slice_bounds-layout_of-end
slice_bounds-layout_of-end c = lines_fit _ _ _ c.read_into.ensures _ (c.in_ok-read_into.was ∙ ap Ok (sym c.from-count.ensures))

pub slice_bounds-layout_of-end-2 : goal.slice_bounds-layout_of-end-2
slice_bounds-layout_of-end-2 c =
    sym (lines_count _ _ _ c.read_into.ensures _ (c.in_ok-read_into.was ∙ ap Ok (sym c.from-count.ensures)))

pub invariant_of-layout_of-clause-some : goal.invariant_of-layout_of-clause-some
invariant_of-layout_of-clause-some c =
    lines_some _ _ _ c.read_into.ensures _ (c.in_ok-read_into.was ∙ ap Ok (sym c.from-count.ensures))

pub invariant_of-layout_of-clause-most : goal.invariant_of-layout_of-clause-most
invariant_of-layout_of-clause-most c =
    lines_few _ _ _ c.read_into.ensures _ (c.in_ok-read_into.was ∙ ap Ok (sym c.from-count.ensures))

pub returns-in_err-read_into-clause-computed : goal.returns-in_err-read_into-clause-computed
returns-in_err-read_into-clause-computed c =
    let p = err_from_is_err_and c.from_residual.result c.from_residual.ensures.1 in
    rw (p.1, p.2) (laid_refused _ _ _ c.read_into.ensures _ c.in_err-read_into.was)

pub returns-in_err-read_into-clause-promised : goal.returns-in_err-read_into-clause-promised
returns-in_err-read_into-clause-promised c =
    let p = err_from_is_err_and c.from_residual.result c.from_residual.ensures.1 in
    rw (p.1, p.2) (judged_refused _ _ _ c.read_into.ensures _ c.in_err-read_into.was)

pub returns-in_err-layout_of-clause-computed : goal.returns-in_err-layout_of-clause-computed
returns-in_err-layout_of-clause-computed c =
    let e = c.in_ok-read_into.was ∙ ap Ok (sym c.from-count.ensures) in
    let p = err_from_is_err_and c.from_residual-in_err-layout_of.result c.from_residual-in_err-layout_of.ensures.1 in
    rw (p.1, p.2) (laid_rejected _ _ _ c.read_into.ensures _ e _ c.layout_of.ensures _ c.in_err-layout_of.was)

pub returns-in_err-layout_of-clause-promised : goal.returns-in_err-layout_of-clause-promised
returns-in_err-layout_of-clause-promised c =
    let e = c.in_ok-read_into.was ∙ ap Ok (sym c.from-count.ensures) in
    let p = err_from_is_err_and c.from_residual-in_err-layout_of.result c.from_residual-in_err-layout_of.ensures.1 in
    rw (p.1, p.2) (judged_rejected _ _ _ c.read_into.ensures _ e _ c.layout_of.ensures _ c.in_err-layout_of.was)

pub returns-clause-computed : goal.returns-clause-computed
returns-clause-computed c =
    let e = c.in_ok-read_into.was ∙ ap Ok (sym c.from-count.ensures) in
    laid_lines _ _ _ c.read_into.ensures _ e _ c.layout_of.ensures c.in_ok-layout_of.was

pub returns-clause-promised : goal.returns-clause-promised
returns-clause-promised c =
    let e = c.in_ok-read_into.was ∙ ap Ok (sym c.from-count.ensures) in
    judged_lines _ _ _ c.read_into.ensures _ e _ c.layout_of.ensures c.in_ok-layout_of.was
