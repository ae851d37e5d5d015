-- `purkvaldi_step` meets its contract.
use Rattle.c_interface.proofs.CodeLaws.{step_coded}
use Rattle.c_interface.proofs.purkvaldi_step.Goals as goal

pub returns : goal.returns
returns c = search step_coded
