-- `main_fault` meets its contract.
use borrow.Author.Rules.{rules}
use Rattle.forest.proofs.ShapePass.{no_module_start, no_module_next, main_fine}
use Rattle.forest.proofs.ShapePass.{main_wrong, main_missing}
use Rattle.forest.proofs.shape.main_fault.Goals as goal

pub loop-n-init : goal.loop-n-init
loop-n-init c = (search rules, search no_module_start)

pub returns-then-f-eq0 : goal.returns-then-f-eq0
returns-then-f-eq0 c = search main_fine

pub returns-then-is_module : goal.returns-then-is_module
returns-then-is_module c = search main_wrong

pub loop-n-preserved : goal.loop-n-preserved
loop-n-preserved c = (search rules, search no_module_next)

pub returns : goal.returns
returns c = search main_missing
