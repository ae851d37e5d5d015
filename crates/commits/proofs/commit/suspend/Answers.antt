-- `suspend` meets its contract.
use Rattle.commits.proofs.SignalLaws.{suspended_is}
use Rattle.commits.proofs.commit.suspend.Goals as goal

pub returns : goal.returns
returns c =
    let joined = rw c.from.ensures at c.join.ensures in
    search suspended_is
