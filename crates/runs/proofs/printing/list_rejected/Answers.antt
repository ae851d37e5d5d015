-- `list_rejected` meets its contract.
use Rattle.runs.proofs.TextListings.{rejected_no_listing, rejected_listed}
use Rattle.runs.proofs.printing.list_rejected.Goals as goal

pub returns-then-out-ne-MOST_LISTING_BYTES : goal.returns-then-out-ne-MOST_LISTING_BYTES
returns-then-out-ne-MOST_LISTING_BYTES c = search rejected_no_listing

pub returns : goal.returns
returns c = search rejected_listed
