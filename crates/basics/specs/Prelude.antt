-- What nearly every definition takes from the libraries. It defines nothing.
pub use mathlib.Core.List.{List, [], ◌∷◌, ◌++◌, map, flat_map, reverse}
pub use Rattle.std.specs.Prelude.{Bool, true, false, not, ◌&&◌, ◌||◌, ◌≡◌, ◌≢◌, ◌⊎◌, ℕ, zero, suc, ◌+◌, ◌-◌, ◌*◌, ◌/◌, ◌%◌, ◌^◌, min, ◌≤◌, ◌<◌, ltb, leb, eqb, length, get_or, set, take, drop, replicate}
pub use Rattle.std.proofs.Math.Seq.{paste}
pub use Rattle.std.specs.Int.Bits.{bit_or}
pub use Rattle.basics.specs.If.{when◌then◌else◌, keep_if}
pub use Rattle.basics.specs.Members.{In, All, every, any}
