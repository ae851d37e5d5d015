use mathlib.Core.Path.{◌≡◌}
use Rattle.machine.specs.Inner.Ranges.{all_below}
use Rattle.listing.specs.Inner.Choices.{is_right}
use Rattle.listing.proofs.choices.starts_block.Given as goal

abbrev pub invariant-loop-k : goal.invariant-loop-k
invariant-loop-k l = l.right ≡ all_below l.k (is_right l.bytes)
