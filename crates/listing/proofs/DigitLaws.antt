-- The digits of a number: one more, from the last to the first; two, and four. Assumes nothing.
use Rattle.std.proofs.Common.{◌≡◌, ℕ, suc, ◌<◌, ◌/◌, ◌%◌, List, [], ◌∷◌, ◌++◌, length, drop, arith}
use Rattle.std.proofs.Common.{append_assoc, slice_set, sym, ◌∙◌, refl}
use Rattle.std.proofs.lemmas.Grind.{common_steps}
use Rattle.text.specs.Digits.{digit_byte}
use Rattle.listing.specs.Listing.{two_digits, four_digits, hex_digits}

drop-set-here : (d : List ℕ) (k v : ℕ) → k < length d
    → drop k (slice_set d k v) ≡ v ∷ drop (suc k) d
drop-set-here d k v h = grind (arith, common_steps)

pub one_more : (m k n : ℕ) (d out : List ℕ) → m ≡ suc k → k < length d
    → hex_digits m n ++ drop m d ≡ out
    → hex_digits k (n / 16) ++ drop k (slice_set d k (digit_byte (n % 16))) ≡ out
one_more m k n d out e h i =
    let a = drop-set-here d k (digit_byte (n % 16)) h in
    let j : hex_digits (suc k) n ++ drop (suc k) d ≡ out = rw e at i in
    let b = append_assoc (hex_digits k (n / 16)) (digit_byte (n % 16) ∷ []) (drop (suc k) d) in
    rw a (sym b ∙ j)

pub hex_two : (n : ℕ) → hex_digits 2 n ≡ two_digits n
hex_two n = refl

pub hex_four : (n : ℕ) → hex_digits 4 n ≡ four_digits n
hex_four n = by (n / 16 / 16 / 16 % 16) (n / 16 / 16 % 16) (omega arith) (omega arith)
  where
    by : (a b : ℕ) → a ≡ n / 256 / 16 % 16 → b ≡ n / 256 % 16
        → digit_byte a ∷ digit_byte b ∷ two_digits n ≡ four_digits n
    by a b p q = rw (p, q)
