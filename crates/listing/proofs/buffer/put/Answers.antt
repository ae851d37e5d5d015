-- `put` meets its contract.
use Rattle.std.proofs.Common.{arith, refl, length, ◌+◌, ◌-◌}
use Rattle.std.proofs.lemmas.Slice.{put_mid-paste}
use Rattle.listing.proofs.buffer.put.Goals as goal

pub returns : goal.returns
returns c =
    put_mid-paste _ (c.args.at + length c.args.line.now - c.args.at) _ _ c.args.line.now
    (length c.args.line.now) c.copy_from_slice.ensures.after (omega arith) refl
