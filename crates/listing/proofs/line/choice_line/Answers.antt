-- `choice_line` meets its contract.
use Rattle.listing.proofs.LineLaws.{choice_line}
use Rattle.listing.proofs.line.choice_line.Goals as goal

pub returns : goal.returns
returns c = search choice_line
