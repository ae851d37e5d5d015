-- `step` meets its contract.
use Rattle.std.proofs.lemmas.Result.{err_from_is_err_and}
use Rattle.checker.proofs.CheckLaws.{check_room, check_length}
use Rattle.stepper.proofs.AnswerLaws.{text_file, step_rejected, step_done}
use Rattle.stepper.proofs.step.step.Goals as goal

pub returns-in_err-n : goal.returns-in_err-n
returns-in_err-n c =
    let p = err_from_is_err_and c.from_residual.result c.from_residual.ensures.1 in
    rw (p.1, p.2) (step_rejected _ _ _ c.lay_into.ensures.computed _ c.in_err-n.was _ _)

pub slice_bounds-words-end : goal.slice_bounds-words-end
slice_bounds-words-end c = check_room _ _ _ c.lay_into.ensures.computed _ c.in_ok-n.was

pub slice_bounds-step_frames-end : goal.slice_bounds-step_frames-end
slice_bounds-step_frames-end c = check_length _ _ _ c.lay_into.ensures.computed _ c.in_ok-n.was

pub step_frames-requires : goal.step_frames-requires
step_frames-requires c = text_file _ _ _ c.lay_into.ensures.computed _ c.in_ok-n.was

pub returns : goal.returns
returns c =
    step_done _ _ _ c.lay_into.ensures.computed _ c.in_ok-n.was _ _ _ _ c.step_frames.ensures
