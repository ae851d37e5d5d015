-- `hex_digits` meets its contract.
use Rattle.std.proofs.Common.{rules, arith, ◌-◌}
use Rattle.listing.proofs.DigitLaws.{one_more}
use Rattle.listing.proofs.digits.hex_digits.Goals as goal

pub loop-k-preserved : goal.loop-k-preserved
loop-k-preserved g c = (
  search rules,
  let more = one_more c.loop-k.k (c.loop-k.k - 1) c.loop-k.rest c.loop-k.digits _ (omega arith) (omega arith) c.loop-k.invariant.1 in
      rw c.digit_byte.ensures more,
)
