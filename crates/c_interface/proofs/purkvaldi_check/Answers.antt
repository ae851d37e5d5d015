-- `purkvaldi_check` meets its contract.
use Rattle.c_interface.proofs.CodeLaws.{code_checked, code_promised}
use Rattle.c_interface.proofs.purkvaldi_check.Goals as goal

pub returns : goal.returns
returns c = record { computed = search code_checked; promised = search code_promised }
