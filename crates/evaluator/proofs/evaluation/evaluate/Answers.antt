-- `evaluate` meets its contract: on words of cells the recursion gives what `eval` gives. Assumes
-- nothing.
use Rattle.evaluator.proofs.Agreement.{eval_on}
use Rattle.evaluator.proofs.evaluation.evaluate.Goals as goal

pub returns : goal.returns
returns c =
    record {
      found = eval_on c.args.frames.now _ _ _ _ _ _ c.requires.1.variables
          c.requires.1.heap c.value_at.ensures.found;
      rest = c.value_at.ensures.rest;
    }
