-- `choices_ahead` meets its contract.
use Rattle.listing.proofs.ChoiceLaws.{ahead_laws}
use Rattle.listing.proofs.choices.choices_ahead.Goals as goal

pub returns-then-starts_block : goal.returns-then-starts_block
returns-then-starts_block c = search ahead_laws

pub returns-then-starts_choice : goal.returns-then-starts_choice
returns-then-starts_choice c = search ahead_laws

pub returns-else-starts_choice : goal.returns-else-starts_choice
returns-else-starts_choice c = search ahead_laws
