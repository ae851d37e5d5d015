-- `last_line` meets its contract.
use Rattle.listing.proofs.LineLaws.{last_line_lem}
use Rattle.listing.proofs.line.last_line.Goals as goal

pub returns : goal.returns
returns c = search last_line_lem
