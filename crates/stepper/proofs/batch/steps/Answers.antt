-- `steps` meets its contract.
use Rattle.std.proofs.lemmas.Result.{err_from_is_err_and}
use Rattle.checker.proofs.CheckLaws.{check_room, check_length}
use Rattle.stepper.proofs.AnswerLaws.{text_file}
use Rattle.stepper.proofs.BatchLaws.{steps_rejected, steps_done}
use Rattle.stepper.proofs.batch.steps.Goals as goal

pub returns-in_err-n : goal.returns-in_err-n
returns-in_err-n c =
    let p = err_from_is_err_and c.from_residual.result c.from_residual.ensures.1 in
    rw (p.1, p.2) (steps_rejected _ _ _ c.lay_into.ensures.computed _ _ _ _ c.in_err-n.was)

pub slice_bounds-words-end : goal.slice_bounds-words-end
slice_bounds-words-end c = check_room _ _ _ c.lay_into.ensures.computed _ c.in_ok-n.was

pub slice_bounds-steps_frames-end : goal.slice_bounds-steps_frames-end
slice_bounds-steps_frames-end c =
    check_length _ _ _ c.lay_into.ensures.computed _ c.in_ok-n.was

pub steps_frames-requires : goal.steps_frames-requires
steps_frames-requires c = text_file _ _ _ c.lay_into.ensures.computed _ c.in_ok-n.was

pub returns : goal.returns
returns c =
    steps_done _ _ _ c.lay_into.ensures.computed _ _ _ _ c.in_ok-n.was _ _ _ c.steps_frames.ensures
