-- `leftmost_unit` meets its contract.
use Rattle.language.proofs.Words.{unit_laws}
use Rattle.language.proofs.type_word.leftmost_unit.Goals as goal

pub returns-then-t-lt-UNIT_1 : goal.returns-then-t-lt-UNIT_1
returns-then-t-lt-UNIT_1 c = search unit_laws

pub returns-then-t-lt-UNIT_2 : goal.returns-then-t-lt-UNIT_2
returns-then-t-lt-UNIT_2 c = search unit_laws

pub returns-then-t-lt-UNIT_3 : goal.returns-then-t-lt-UNIT_3
returns-then-t-lt-UNIT_3 c = search unit_laws

pub returns-else-t-lt-UNIT_3 : goal.returns-else-t-lt-UNIT_3
returns-else-t-lt-UNIT_3 c = search unit_laws
