-- `code_of` meets its contract.
use Rattle.c_interface.proofs.CodeLaws.{code_laws}
use Rattle.c_interface.proofs.code_of.Goals as goal

pub returns-in-Ok : goal.returns-in-Ok
returns-in-Ok c = search code_laws

pub returns-in-Err : goal.returns-in-Err
returns-in-Err c = search code_laws
