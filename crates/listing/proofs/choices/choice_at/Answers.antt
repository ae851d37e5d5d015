-- `choice_at` meets its contract.
use Rattle.listing.proofs.ChoiceLaws.{choice_laws}
use Rattle.listing.proofs.choices.choice_at.Goals as goal

pub returns-then-bytes-k : goal.returns-then-bytes-k
returns-then-bytes-k c = search choice_laws

pub returns : goal.returns
returns c = search choice_laws
