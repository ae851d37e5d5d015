-- `module_at` meets its contract.
use Rattle.program.proofs.ModuleLaws.{module_there, module_nowhere}
use Rattle.program.proofs.module.module_at.Goals as goal

pub returns-in_err-f : goal.returns-in_err-f
returns-in_err-f c =
    module_nowhere _ _ _ c.frame_numbered.ensures _ c.from_residual.ensures c.in_err-f.was

pub returns : goal.returns
returns c = module_there _ _ _ c.frame_numbered.ensures _ c.in_ok-f.was _ _ c.parameters_of.ensures c.from.ensures
