-- `cell_type` meets its contract.
use Rattle.language.proofs.Words.{cell_type_laws, fit_laws}
use Rattle.language.proofs.type_word.cell_type.Goals as goal

pub returns-then-not-is_place : goal.returns-then-not-is_place
returns-then-not-is_place c = search cell_type_laws

pub returns-then-t-ge-UNIT_3 : goal.returns-then-t-ge-UNIT_3
returns-then-t-ge-UNIT_3 c = search cell_type_laws

pub overflow_mul-result : goal.overflow_mul-result
overflow_mul-result c = record { fits = search fit_laws }

pub overflow_mul-result-2 : goal.overflow_mul-result-2
overflow_mul-result-2 c = record { fits = search fit_laws }

pub overflow_add-result : goal.overflow_add-result
overflow_add-result c = record { fits = search fit_laws }

pub returns : goal.returns
returns c = search cell_type_laws
