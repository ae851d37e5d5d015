use Rattle.basics.proofs.Closures.{count}
use Rattle.lists.specs.Inner.Families.{lacks_thread}
use Rattle.lists.proofs.Climbs.{Climbing}
use Rattle.lists.proofs.wait.with_ancestors.Given as goal

abbrev pub invariant-loop-found : goal.invariant-loop-found
invariant-loop-found l = Climbing l.state l.set l.t l.found l.at

abbrev pub decreases-loop-found : goal.decreases-loop-found
decreases-loop-found l = count (lacks_thread l.found) 65
