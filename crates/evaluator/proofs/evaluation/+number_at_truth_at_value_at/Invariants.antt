use Rattle.evaluator.proofs.evaluation.+number_at_truth_at_value_at.Given as goal

abbrev pub decreases-number_at : goal.decreases-number_at
decreases-number_at l = l.i

abbrev pub decreases-truth_at : goal.decreases-truth_at
decreases-truth_at l = l.i

abbrev pub decreases-value_at : goal.decreases-value_at
decreases-value_at l = l.i
