use Rattle.std.proofs.Common.{◌≡◌, fold, drop}
use Rattle.forest.specs.Inner.Walks.{met, HasRoom, entered}
use Rattle.forest.proofs.cycle.Met.enter_children.Given as goal

abbrev pub invariant-loop-v : goal.invariant-loop-v
invariant-loop-v l =
    HasRoom l.self
    × (fold (entered l.i l.n) (met l.self) (drop l.v-index l.v-items)
    ≡ fold (entered l.i l.n) (met l.initial.self) l.v-items)
