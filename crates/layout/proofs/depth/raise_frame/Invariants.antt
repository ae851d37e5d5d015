use Rattle.std.proofs.Common.{◌≡◌, fold, drop}
use Rattle.layout.specs.Inner.Passes.{raised}
use Rattle.layout.proofs.depth.raise_frame.Given as goal

abbrev pub invariant-loop-v : goal.invariant-loop-v
invariant-loop-v l =
    fold (raised l.d) l.u (drop l.v-index l.v-items) ≡ fold (raised l.d) l.initial.u l.v-items
