use Rattle.lists.specs.Inner.Families.{HasStarters, LivingTo}
use Rattle.lists.proofs.wait.living_families.Given as goal

abbrev pub invariant-loop-k : goal.invariant-loop-k
invariant-loop-k l =
    LivingTo l.state l.k l.living × HasStarters l.state l.living
