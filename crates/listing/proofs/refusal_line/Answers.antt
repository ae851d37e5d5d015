-- `refusal_line` meets its contract.
use Rattle.listing.proofs.LineLaws.{refusal_line_lem}
use Rattle.listing.proofs.refusal_line.Goals as goal

pub returns : goal.returns
returns c = search refusal_line_lem
