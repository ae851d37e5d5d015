-- `layout_verdict` meets its contract.
use Rattle.std.proofs.lemmas.Result.{err_from_is_err_and}
use Rattle.layout.proofs.Judged.{judged, verdict_rejected, verdict_lines}
use Rattle.layout.proofs.layout_verdict.Goals as goal

pub returns-in_err-lay_into-clause-computed : goal.returns-in_err-lay_into-clause-computed
returns-in_err-lay_into-clause-computed c =
    let p = err_from_is_err_and c.from_residual.result c.from_residual.ensures.1 in
    rw (p.1, p.2) (verdict_rejected _ _ _ c.lay_into.ensures.computed _ c.in_err-lay_into.was)

pub returns-in_err-lay_into-clause-promised : goal.returns-in_err-lay_into-clause-promised
returns-in_err-lay_into-clause-promised c =
    let p = err_from_is_err_and c.from_residual.result c.from_residual.ensures.1 in
    rw (p.1, p.2) (judged _ _ (verdict_rejected _ _ _ c.lay_into.ensures.computed _ c.in_err-lay_into.was))

pub returns-clause-computed : goal.returns-clause-computed
returns-clause-computed c = verdict_lines _ _ _ c.lay_into.ensures.computed _ c.in_ok-lay_into.was

pub returns-clause-promised : goal.returns-clause-promised
returns-clause-promised c = judged _ _ (verdict_lines _ _ _ c.lay_into.ensures.computed _ c.in_ok-lay_into.was)
