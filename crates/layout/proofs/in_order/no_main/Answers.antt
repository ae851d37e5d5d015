-- `no_main` meets its contract.
use Rattle.layout.proofs.OrderPass.{no_main_laws}
use Rattle.layout.proofs.in_order.no_main.Goals as goal

pub returns-then-is_main : goal.returns-then-is_main
returns-then-is_main c = search no_main_laws

pub returns-else-is_main : goal.returns-else-is_main
returns-else-is_main c = search no_main_laws
