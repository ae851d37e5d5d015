use Rattle.checker.proofs.effect.+effect_of.Given as goal

abbrev pub decreases-effect_of : goal.decreases-effect_of
decreases-effect_of l = l.i
