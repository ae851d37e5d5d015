-- `owner_digit` meets its contract.
use Rattle.language.proofs.Words.{owner_laws, unit_some}
use Rattle.language.proofs.type_word.owner_digit.Goals as goal

pub nonzero_div-result : goal.nonzero_div-result
nonzero_div-result c = search unit_some

pub returns-then-is_cell : goal.returns-then-is_cell
returns-then-is_cell c = search owner_laws

pub returns-else-is_cell : goal.returns-else-is_cell
returns-else-is_cell c = search owner_laws
