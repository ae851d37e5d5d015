-- `child_first` meets its contract.
use Rattle.layout.proofs.DisorderPass.{child_laws}
use Rattle.layout.proofs.in_order.Trees.child_first.Goals as goal

pub returns-then-ne : goal.returns-then-ne
returns-then-ne c = search child_laws
