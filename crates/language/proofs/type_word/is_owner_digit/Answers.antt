-- `is_owner_digit` meets its contract.
use Rattle.language.proofs.Words.{digit_laws}
use Rattle.language.proofs.type_word.is_owner_digit.Goals as goal

pub returns-then-o-eq0 : goal.returns-then-o-eq0
returns-then-o-eq0 c = search digit_laws

pub returns-then-o-private : goal.returns-then-o-private
returns-then-o-private c = search digit_laws

pub returns-else-o-private : goal.returns-else-o-private
returns-else-o-private c = search digit_laws

pub returns-else-is_in_file : goal.returns-else-is_in_file
returns-else-is_in_file c = search digit_laws
