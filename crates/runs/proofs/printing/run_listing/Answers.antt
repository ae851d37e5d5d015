-- `run_listing` meets its contract.
use Rattle.checker.proofs.CheckLaws.{check_room, check_length}
use Rattle.stepper.proofs.AnswerLaws.{text_file}
use Rattle.runs.proofs.TextListings.{list_rejected, list_short_state, list_short_out}
use Rattle.runs.proofs.TextListings.{list_laid_out}
use Rattle.runs.proofs.printing.run_listing.Goals as goal

pub returns-in_default : goal.returns-in_default
returns-in_default c =
    list_short_state _ _ _ _ _ _ c.lay_into.ensures.computed _ c.in-Ok.is
    c.in_default.ensures.cases _ c.wrong_length.ensures

pub returns-in_default-as_mut_array : goal.returns-in_default-as_mut_array
returns-in_default-as_mut_array c =
    list_short_out _ _ _ _ _ _ c.lay_into.ensures.computed _ c.in-Ok.is
    c.in_default-as_mut_array.ensures.cases _ _ c.in-Some.ensures.cases.same
    c.wrong_length-in_default-as_mut_array.ensures

pub slice_bounds-words-end : goal.slice_bounds-words-end
slice_bounds-words-end c = search check_room

pub slice_bounds-list_frames-end : goal.slice_bounds-list_frames-end
slice_bounds-list_frames-end c = search check_length

pub list_frames-requires : goal.list_frames-requires
list_frames-requires c = search text_file

pub returns-in-Err : goal.returns-in-Err
returns-in-Err c = search list_rejected

pub returns : goal.returns
returns c =
    list_laid_out _ _ _ _ _ _ c.lay_into.ensures.computed _ c.in-Ok.is
    c.in-Some.ensures.cases.long c.in-Some-as_mut_array.ensures.cases.long _ _ _ _ _
    c.in-Some.ensures.cases.same c.in-Some-as_mut_array.ensures.cases.same c.list_frames.ensures
