-- `with_awaiting` meets its contract.
use Rattle.lists.proofs.WaitLaws.{ended_adds, living_adds}
use Rattle.lists.proofs.wait.with_awaiting.Goals as goal

pub returns-then-state-k-eq0 : goal.returns-then-state-k-eq0
returns-then-state-k-eq0 c = record { added = ended_adds _ _ _ c.if-state-k-eq0.true; starters = c.requires.1 }

pub returns : goal.returns
returns c =
    let added = c.with_ancestors.ensures in
    record { added = living_adds _ _ _ _ c.if-state-k-eq0.false added.added; starters = added.starters }
