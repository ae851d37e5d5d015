-- `tree_fault` meets its contract.
use Rattle.forest.proofs.TreePass.{before_is, before_inside, tree_is}
use Rattle.forest.proofs.tree.tree_fault.Goals as goal

pub cycle_fault-requires : goal.cycle_fault-requires
cycle_fault-requires c =
    let before = before_is _ _ _ c.map_or-before.ensures in
    before_inside _ _ _ c.use_fault-fault.ensures before

pub returns : goal.returns
returns c =
    let before = before_is _ _ _ c.map_or-before.ensures in
    tree_is _ _ _ c.use_fault-fault.ensures before _ _ c.cycle_fault.ensures c.lower.ensures
