-- `arrange_lines` meets its contract.
use Rattle.std.proofs.lemmas.Result.{err_from_is_err_and}
use Rattle.writer.proofs.Arranges.{refused_lines, writable_lines, unfit_lines, laid_lines}
use Rattle.std.proofs.Common.{rules, []}
use Rattle.writer.proofs.arrange_lines.Goals as goal

pub returns-in_err-drawing_verdict : goal.returns-in_err-drawing_verdict
returns-in_err-drawing_verdict c =
    let p = err_from_is_err_and c.from_residual.result c.from_residual.ensures.1 in
    rw (p.1, p.2) (refused_lines _ _ _ c.drawing_verdict.ensures _ c.in_err-drawing_verdict.was)

pub returns-then-out-words : goal.returns-then-out-words
returns-then-out-words c =
    unfit_lines _ _ _ c.drawing_verdict.ensures c.in_ok-drawing_verdict.was c.if-out-words.true

pub lay_all-requires : goal.lay_all-requires
lay_all-requires c =
    (writable_lines _ [] _ c.drawing_verdict.ensures c.in_ok-drawing_verdict.was, search rules, search rules)

pub returns : goal.returns
returns c = laid_lines _ _ _ c.drawing_verdict.ensures c.in_ok-drawing_verdict.was _ c.lay_all.ensures c.if-out-words.false
