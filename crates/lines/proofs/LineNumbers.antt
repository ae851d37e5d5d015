-- What `line_after` computes, return by return, with the tests that lead there as premises. Assumes
-- nothing.
use mathlib.Core.Path.{◌≡◌, refl}
use mathlib.Core.List.{List}
use Prim.Native.Nat.{ℕ, ◌+◌, ◌/◌, ◌<◌, ◌≤◌}
use native.Mathlib.Numerals.{add-one}
use lib.ListN.{length}
use borrow.Author.Tests.{lt-ltb, le-ltb}
use Rattle.basics.proofs.Ifs.{yes, no}
use Rattle.lines.specs.Readers.{line_after}

module _ (bs : List ℕ) (n : ℕ) where
  pub after_end : length bs / 17 ≤ n → n ≡ line_after bs n
  unfolding line_after
  after_end h = no _ (le-ltb _ _ h) refl

  pub after_line : n < length bs / 17 → n + 1 ≡ line_after bs n
  unfolding line_after
  after_line h = yes _ (lt-ltb _ _ h) (add-one n)

pub ruleset after_laws = (after_end, after_line)
