-- `arrange` meets its contract.
use Rattle.std.proofs.Common.{ap, sym, ◌∙◌, Ok}
use Rattle.std.proofs.lemmas.Result.{err_from_is_err_and}
use Rattle.layout.proofs.Answers.{lines_fit, lines_count, lines_some, lines_few}
use Rattle.writer.proofs.Arranges.{refused_text, whole_text, refused_answered}
use Rattle.writer.proofs.Arranges.{whole_answered}
use Rattle.writer.proofs.arrange.Goals as goal

pub slice_bounds-words-end : goal.slice_bounds-words-end
slice_bounds-words-end c =
    lines_fit _ _ _ c.read_into.ensures _ (c.in_ok-read_into.was ∙ ap Ok (sym c.from-count.ensures))

pub slice_bounds-arrange_lines-end : goal.slice_bounds-arrange_lines-end
slice_bounds-arrange_lines-end c =
    sym (lines_count _ _ _ c.read_into.ensures _ (c.in_ok-read_into.was ∙ ap Ok (sym c.from-count.ensures)))

pub arrange_lines-requires : goal.arrange_lines-requires
arrange_lines-requires c =
    let e = c.in_ok-read_into.was ∙ ap Ok (sym c.from-count.ensures) in
    (lines_some _ _ _ c.read_into.ensures _ e, lines_few _ _ _ c.read_into.ensures _ e)

pub returns-in_err-read_into-clause-computed : goal.returns-in_err-read_into-clause-computed
returns-in_err-read_into-clause-computed c =
    let p = err_from_is_err_and c.from_residual.result c.from_residual.ensures.1 in
    rw (p.1, p.2) (refused_text _ _ _ _ c.read_into.ensures _ c.in_err-read_into.was)

pub returns-in_err-read_into-clause-promised : goal.returns-in_err-read_into-clause-promised
returns-in_err-read_into-clause-promised c =
    let p = err_from_is_err_and c.from_residual.result c.from_residual.ensures.1 in
    rw (p.1, p.2) (refused_answered _ _ _ _ c.read_into.ensures _ c.in_err-read_into.was)

pub returns-clause-computed : goal.returns-clause-computed
returns-clause-computed c =
    let e = c.in_ok-read_into.was ∙ ap Ok (sym c.from-count.ensures) in
    whole_text _ _ _ _ c.read_into.ensures _ e _ _ c.arrange_lines.ensures

pub returns-clause-promised : goal.returns-clause-promised
returns-clause-promised c =
    let e = c.in_ok-read_into.was ∙ ap Ok (sym c.from-count.ensures) in
    whole_answered _ _ _ _ c.read_into.ensures _ e _ _ c.arrange_lines.ensures
