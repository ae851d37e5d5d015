-- `step_frames` meets its contract.
use Rattle.std.proofs.Common.{ap, sym, subst, ◌∙◌, List, ℕ}
use Rattle.text.specs.Frames.{frames_of}
use Rattle.machine.specs.Calls.{step_call}
use Rattle.stepper.specs.Inner.Files.{StepWords}
use Rattle.stepper.proofs.GoodWords.{step_long}
use mathlib.Core.Bool.{not}
use Rattle.stepper.proofs.AnswerLaws.{step_out, step_words, step_in}
use Rattle.stepper.proofs.step.step_frames.Goals as goal

pub returns-then-not-in_range : goal.returns-then-not-in_range
returns-then-not-in_range c =
    step_out _ _ _ c.file_of-file.ensures _ _ c.in_range.ensures (ap not c.if-not-in_range.true)

pub returns-in_default : goal.returns-in_default
returns-in_default c =
    let good = step_words _ _ _ c.file_of-file.ensures _ c.in_range.ensures
    (ap not c.if-not-in_range.false) c.requires in
    absurd (c.in_default.ensures.cases (step_long _ _ _ good))

pub step_valid-s-requires : goal.step_valid-s-requires
step_valid-s-requires c =
    let good = step_words _ _ _ c.file_of-file.ensures _ c.in_range.ensures
    (ap not c.if-not-in_range.false) c.requires in
    (subst (StepWords _ _) (sym c.in-Some.ensures.cases.same) good, c.file_of-file.ensures)

pub returns : goal.returns
returns c =
    step_in _ _ _ _
    (c.step_valid-s.ensures
    ∙ ap (λ (w : List ℕ). step_call (frames_of c.args.frames.now) w c.args.choice)
    c.in-Some.ensures.cases.same)
    c.answer_of.ensures
