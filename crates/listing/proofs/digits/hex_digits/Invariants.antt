-- The digits that are left are those of the rest, before those that are written.
use Rattle.std.proofs.Common.{◌≡◌, ◌++◌, drop, length}
use Rattle.listing.specs.Listing.{hex_digits}
use Rattle.listing.proofs.digits.hex_digits.Given as goal

abbrev pub invariant-loop-k : goal.invariant-loop-k
invariant-loop-k g l =
    (length l.digits ≡ g.row.N)
    × (hex_digits l.k l.rest ++ drop l.k l.digits ≡ hex_digits g.row.N l.fn.n)
