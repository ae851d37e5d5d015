-- `allowance_in` meets its contract.
use Rattle.stepper.proofs.FileLaws.{allowance_laws}
use Rattle.stepper.proofs.file.allowance_in.Goals as goal

pub returns-then-a-eq0 : goal.returns-then-a-eq0
returns-then-a-eq0 c = search allowance_laws

pub returns : goal.returns
returns c = search allowance_laws
