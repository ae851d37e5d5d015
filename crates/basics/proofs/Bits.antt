-- The bits of numbers: of halves, of powers of two, of two numbers together; a set of numbers kept
-- as bits, with one more. Assumes nothing.
use mathlib.Core.Path.{◌≡◌, refl, sym, ap, ◌∙◌}
use Prim.Native.Nat.{ℕ, zero, suc, ◌*◌, ◌/◌, ◌%◌, ◌^◌, ◌<◌, max}
use native.Mathlib.Nat.{div-div-eq-div-mul, pow-suc, pow-succ', div-one, zero-div}
use native.Mathlib.Nat.{mod-eq_of_lt, one-mul}
use native.Mathlib.Omega.{arith}
use lib.Pow.{pow-lt}
use lib.Bits.{bit_or, or_step, or_shr}

abbrev pub bit : ℕ → ℕ → ℕ
bit q n = n / 2 ^ q % 2

pub bit_zero : (n : ℕ) → bit 0 n ≡ n % 2
bit_zero n = ap (λ (m : ℕ). m % 2) (div-one n)

pub bit-suc : (q n : ℕ) → bit (suc q) n ≡ bit q (n / 2)
bit-suc q n =
    ap (λ (m : ℕ). m % 2)
    (ap (λ (m : ℕ). n / m) (pow-succ' 2 q) ∙ sym (div-div-eq-div-mul n 2 (2 ^ q)))

half_power : (o : ℕ) → 2 ^ suc o / 2 ≡ 2 ^ o
half_power o = ap (λ (n : ℕ). n / 2) (pow-suc 2 o) ∙ omega arith

even_power : (o : ℕ) → 2 ^ suc o % 2 ≡ 0
even_power o = ap (λ (n : ℕ). n % 2) (pow-suc 2 o) ∙ omega arith

pub no_bit : (q : ℕ) → bit q 0 ≡ 0
no_bit q = ap (λ (m : ℕ). m % 2) (zero-div (2 ^ q))

-- ---- the bits of 2 ^ o
pub same_bit : (o : ℕ) → bit o (2 ^ o) ≡ 1
same_bit zero = refl
same_bit (suc o) = bit-suc o (2 ^ suc o) ∙ ap (bit o) (half_power o) ∙ same_bit o

pub other_bit : (q o : ℕ) → (q ≡ o → ⊥) → bit q (2 ^ o) ≡ 0
other_bit zero zero d = absurd (d refl)
other_bit zero (suc o) d = bit_zero (2 ^ suc o) ∙ even_power o
other_bit (suc q) zero d = bit-suc q 1 ∙ no_bit q
other_bit (suc q) (suc o) d =
    bit-suc q (2 ^ suc o) ∙ ap (bit q) (half_power o) ∙ other_bit q o (λ e. d (ap suc e))

-- ---- of two numbers together
pub bit_or_lem : (q a b : ℕ) → bit q (bit_or a b) ≡ max (bit q a) (bit q b)
bit_or_lem q a b =
    ap (λ (n : ℕ). n % 2) (or_shr a b q ∙ or_step (a / 2 ^ q) (b / 2 ^ q)) ∙ omega arith

-- ---- bit o set in a word of 64 bits, as the code sets it
module _ (n o : ℕ) (l : o < 64) where
  abbrev set_in : ℕ
  set_in = bit_or n (1 * 2 ^ o % 2 ^ 64)

  bits_of : (q : ℕ) → bit q set_in ≡ max (bit q n) (bit q (2 ^ o))
  bits_of q =
      ap (λ (m : ℕ). bit q (bit_or n m)) (rw one-mul (mod-eq_of_lt (pow-lt {j = 64} l)))
      ∙ bit_or_lem q n (2 ^ o)

  pub set_bit : bit o (bit_or n (1 * 2 ^ o % 2 ^ 64)) ≡ 1
  set_bit = let one = same_bit o in let b = bits_of o in omega arith

  pub kept_bit : (q : ℕ) → (q ≡ o → ⊥) → bit q (bit_or n (1 * 2 ^ o % 2 ^ 64)) ≡ bit q n
  kept_bit q d = let none = other_bit q o d in let b = bits_of q in omega arith
