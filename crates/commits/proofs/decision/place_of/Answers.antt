-- `place_of` meets its contract.
use Rattle.commits.proofs.DecisionLaws.{place_in_lem}
use Rattle.commits.proofs.decision.place_of.Goals as goal

pub returns : goal.returns
returns c = search place_in_lem
