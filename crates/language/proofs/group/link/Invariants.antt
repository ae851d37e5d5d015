use Prim.Native.Nat.{◌≤◌}
use mathlib.Core.Path.{◌≡◌}
use lib.ListN.{length}
use Rattle.language.specs.Inner.Labels.{with_label}
use Rattle.language.proofs.LabelLaws.{map_to}
use Rattle.language.proofs.group.link.Given as goal

abbrev pub invariant-loop-k : goal.invariant-loop-k
invariant-loop-k l =
    (l.k ≤ 8) × (length l.labels ≡ 8) × (l.labels ≡ map_to (with_label l.old l.new) l.k l.initial.labels)
