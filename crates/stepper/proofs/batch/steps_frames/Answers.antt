-- `steps_frames` meets its contract.
use Rattle.std.proofs.Common.{ap, sym, subst, ◌∙◌, List, ℕ, map}
use Rattle.text.specs.Frames.{frames_of}
use Rattle.machine.specs.Calls.{calls_from, words_from}
use Rattle.stepper.specs.Answers.{answer_word}
use Rattle.stepper.specs.Inner.Files.{StepWords}
use Rattle.stepper.proofs.GoodWords.{step_long}
use mathlib.Core.Bool.{not}
use Rattle.stepper.proofs.BatchLaws.{steps_wrong, steps_out, steps_in}
use Rattle.stepper.proofs.AnswerLaws.{step_words}
use Rattle.stepper.proofs.batch.steps_frames.Goals as goal

pub returns-then-answers-choices : goal.returns-then-answers-choices
returns-then-answers-choices c = search steps_wrong

pub returns-then-not-in_range : goal.returns-then-not-in_range
returns-then-not-in_range c =
    steps_out _ _ _ _ _ c.file_of-file.ensures _ c.in_range.ensures (ap not c.if-not-in_range.true)

pub returns-in_default : goal.returns-in_default
returns-in_default c =
    let good = step_words _ _ _ c.file_of-file.ensures _ c.in_range.ensures
    (ap not c.if-not-in_range.false) c.requires in
    absurd (c.in_default.ensures.cases (step_long _ _ _ good))

pub step_all-requires : goal.step_all-requires
step_all-requires c =
    let good = step_words _ _ _ c.file_of-file.ensures _ c.in_range.ensures
    (ap not c.if-not-in_range.false) c.requires in (
      subst (StepWords _ _) (sym c.in-Some.ensures.cases.same) good,
      c.file_of-file.ensures,
      c.if-answers-choices.false,
    )

pub returns : goal.returns
returns c =
    let good = step_words _ _ _ c.file_of-file.ensures _ c.in_range.ensures
    (ap not c.if-not-in_range.false) c.requires in
    let fs = frames_of c.args.frames.now in
    let cs = c.args.choices.now in
    let same = c.in-Some.ensures.cases.same in
    steps_in _ _ _ _ _ _ _ good c.if-answers-choices.false
    (c.step_all.ensures.words ∙ ap (λ (w : List ℕ). words_from fs w cs) same)
    (c.step_all.ensures.answers
    ∙ ap (λ (w : List ℕ). map answer_word (calls_from fs w cs)) same)
