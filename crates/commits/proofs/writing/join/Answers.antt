-- `join` meets its contract.
use Rattle.commits.proofs.WritingLaws.{joined}
use Rattle.commits.proofs.writing.join.Goals as goal

pub returns : goal.returns
returns c = search joined
