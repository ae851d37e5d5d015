-- The digit of a byte, and the byte of a digit, as the code computes them. Assumes nothing.
use Rattle.std.proofs.Common.{◌≡◌, ℕ, ◌+◌, ◌-◌, ◌%◌, ◌<◌, ◌≤◌, refl, arith, ltb-false, le-ltb, lt-ltb}
use Rattle.basics.proofs.Ifs.{if_all, yes, no}
use Rattle.text.specs.Digits.{digit, digit_byte}

-- ---- the digit of byte b, which stands 48 after 0 and 65 after A
module _ (b : ℕ) (byte : b < 256) where
  pub decimal_digit : (b + 208) % 256 < 10 → (b + 208) % 256 ≡ digit b
  unfolding digit
  decimal_digit h =
      let e : (b + 208) % 256 ≡ b - 48 = omega arith in
      no _ (le-ltb b 48 (omega arith)) (yes _ (lt-ltb b 58 (omega arith)) e)

  pub letter_digit : (b + 191) % 256 < 6 → 10 + (b + 191) % 256 ≡ digit b
  unfolding digit
  letter_digit h =
      let e : 10 + (b + 191) % 256 ≡ b - 55 = omega arith in
      no _ (le-ltb b 48 (omega arith))
      (no _ (le-ltb b 58 (omega arith))
      (no _ (le-ltb b 65 (omega arith)) (yes _ (lt-ltb b 71 (omega arith)) e)))

  -- neither range has it
  pub no_digit : 10 ≤ (b + 208) % 256 → 6 ≤ (b + 191) % 256 → 255 ≡ digit b
  unfolding digit
  no_digit h k =
      if_all (λ x. 255 ≡ x) _ _ _ (λ _. refl) (λ e.
      let i = ltb-false b 48 e in
      no _ (le-ltb b 58 (omega arith)) (if_all (λ x. 255 ≡ x) _ _ _ (λ _. refl) (λ f.
      let j = ltb-false b 65 f in
      no _ (le-ltb b 71 (omega arith)) refl)))

-- ---- and back: the byte of a digit
pub low_digit : (n : ℕ) → n < 10 → 48 + n ≡ digit_byte n
unfolding digit_byte
low_digit n h = yes _ (lt-ltb n 10 h) refl

pub high_digit : (n : ℕ) → 10 ≤ n → 65 + (n - 10) ≡ digit_byte n
unfolding digit_byte
high_digit n h = no _ (le-ltb n 10 h) (omega arith)

pub ruleset digit_laws = (decimal_digit, letter_digit, no_digit, low_digit, high_digit)
