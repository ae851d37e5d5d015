-- `living_families` meets its contract.
use Rattle.lists.proofs.WaitLaws.{living_start, starters_start, living_more}
use Rattle.lists.proofs.wait.living_families.Goals as goal

pub loop-k-init : goal.loop-k-init
loop-k-init c = (living_start _, starters_start _)

pub loop-k-preserved : goal.loop-k-preserved
loop-k-preserved c =
    let added = c.with_awaiting-living.ensures in
    (living_more _ _ _ _ c.loop-k.invariant.0 added.added, added.starters)
