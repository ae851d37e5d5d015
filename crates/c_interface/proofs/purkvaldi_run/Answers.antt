-- `purkvaldi_run` meets its contract.
use Rattle.c_interface.proofs.CodeLaws.{listing_coded}
use Rattle.c_interface.proofs.purkvaldi_run.Goals as goal

pub returns : goal.returns
returns c = search listing_coded
