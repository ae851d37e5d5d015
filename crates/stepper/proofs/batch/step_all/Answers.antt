-- `step_all` meets its contract.
use Rattle.std.proofs.Common.{rules, ap, ◌∙◌}
use Rattle.text.specs.Frames.{frames_of}
use Rattle.machine.specs.Calls.{step_call}
use Rattle.stepper.proofs.BatchLaws.{stepping_more, stepping_words, stepping_answers}
use Rattle.stepper.proofs.batch.step_all.Goals as goal

pub loop-k-preserved : goal.loop-k-preserved
loop-k-preserved c =
    stepping_more _ _ _ _ _ _ _ _ c.loop-k.invariant c.requires.2 c.loop-k-test.true _ _ _
    (c.step_valid-s.ensures
    ∙ ap (step_call (frames_of c.args.frames.now) c.loop-k.state) c.from.ensures)
    c.answer_word.ensures (search rules)

pub returns-clause-words : goal.returns-clause-words
returns-clause-words c = search stepping_words

pub returns-clause-answers : goal.returns-clause-answers
returns-clause-answers c = search stepping_answers
