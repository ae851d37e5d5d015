-- `purkvaldi_steps` meets its contract.
use Rattle.c_interface.proofs.CodeLaws.{batch_coded}
use Rattle.c_interface.proofs.purkvaldi_steps.Goals as goal

pub returns : goal.returns
returns c = search batch_coded
