-- `purkvaldi_fresh` meets its contract.
use Rattle.c_interface.proofs.CodeLaws.{answer_coded}
use Rattle.c_interface.proofs.purkvaldi_fresh.Goals as goal

pub returns : goal.returns
returns c = search answer_coded
