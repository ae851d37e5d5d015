-- `answer_code` meets its contract.
use Rattle.c_interface.proofs.CodeLaws.{answer_laws}
use Rattle.c_interface.proofs.answer_code.Goals as goal

pub returns-in-Ok : goal.returns-in-Ok
returns-in-Ok c = search answer_laws

pub returns-in-Err : goal.returns-in-Err
returns-in-Err c = search answer_laws
