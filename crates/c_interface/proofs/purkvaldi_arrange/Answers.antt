-- `purkvaldi_arrange` meets its contract.
use Rattle.c_interface.proofs.CodeLaws.{writing_coded, writing_promised}
use Rattle.c_interface.proofs.purkvaldi_arrange.Goals as goal

pub returns : goal.returns
returns c = record { computed = search writing_coded; promised = search writing_promised }
