use Rattle.std.proofs.Common.{◌≡◌, fold, drop}
use Rattle.layout.specs.Inner.Uses.{counted}
use Rattle.layout.proofs.uses.count_frame.Given as goal

abbrev pub invariant-loop-v : goal.invariant-loop-v
invariant-loop-v l =
    fold counted l.counts (drop l.v-index l.v-items) ≡ fold counted l.initial.counts l.v-items
