-- `fresh` meets its contract.
use Rattle.std.proofs.lemmas.Result.{err_from_is_err_and}
use Rattle.checker.proofs.CheckLaws.{check_room, check_length}
use Rattle.stepper.proofs.AnswerLaws.{fresh_rejected, fresh_wrong, fresh_done}
use Rattle.stepper.proofs.step.fresh.Goals as goal

pub returns-in_err-n : goal.returns-in_err-n
returns-in_err-n c =
    let p = err_from_is_err_and c.from_residual.result c.from_residual.ensures.1 in
    rw (p.1, p.2) (fresh_rejected _ _ _ c.lay_into.ensures.computed _ c.in_err-n.was _)

pub returns-in_default : goal.returns-in_default
returns-in_default c =
    fresh_wrong _ _ _ c.lay_into.ensures.computed _ c.in_ok-n.was _
    c.in_default.ensures.cases

pub slice_bounds-words-end : goal.slice_bounds-words-end
slice_bounds-words-end c = check_room _ _ _ c.lay_into.ensures.computed _ c.in_ok-n.was

pub slice_bounds-write_fresh-end : goal.slice_bounds-write_fresh-end
slice_bounds-write_fresh-end c = check_length _ _ _ c.lay_into.ensures.computed _ c.in_ok-n.was

pub returns : goal.returns
returns c =
    fresh_done _ _ _ c.lay_into.ensures.computed _ c.in_ok-n.was _ _ c.write_fresh.ensures
    c.in-Some.ensures.cases.long
