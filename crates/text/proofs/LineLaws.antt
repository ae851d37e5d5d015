-- Laws of the loop of `read_line`, which takes all digits of a line without an exit: what it keeps,
-- and what each return of the function gives. Assumes nothing.
use Rattle.std.specs.Prelude.{Some, None}
use Rattle.std.proofs.Common.{◌≡◌, ℕ, suc, ◌+◌, ◌*◌, ◌%◌, ◌^◌, ◌<◌, ◌≤◌, Bool, true, false, ◌&&◌, eqb, ltb, leb, List, [], ◌∷◌, ◌++◌, length, get_or, take, sym, refl, ap, ◌∙◌, ap₂, pow-suc, add-one, arith, take-suc, ltb-false, ltb-true, le-ltb, lt-ltb, eq-eqb, ne_eqb, le-leb}
use native.Mathlib.Nat.{pow-le-pow_right}
use lib.Bits.{bit_or, or_lt, or_add_and, and_le_l, and_le_r}
use borrow.Author.Tests.{lt-leb}
use Rattle.basics.proofs.Ifs.{yes, no, and_off}
use Rattle.text.specs.Digits.{digit}
use Rattle.text.specs.Frames.{hexadecimal, line_word}
use Rattle.text.specs.Inner.Lines.{all_digits, starts_line, line_read}

-- ---- bits of values put together: none is lost, and 16 is reached only where one value reaches it
or_left : (a b : ℕ) → a ≤ bit_or a b
or_left a b = let s = or_add_and a b in let l = and_le_r a b in omega arith

or_right : (a b : ℕ) → b ≤ bit_or a b
or_right a b = let s = or_add_and a b in let l = and_le_l a b in omega arith

or_below : (a b : ℕ) → ltb (bit_or a b) 16 ≡ ltb a 16 && ltb b 16
or_below a b = by (ltb a 16) (ltb b 16) refl refl
  where
    by : (s t : Bool) → ltb a 16 ≡ s → ltb b 16 ≡ t → ltb (bit_or a b) 16 ≡ s && t
    by true true p q = lt-ltb _ _ (or_lt 4 a b (ltb-true a 16 p) (ltb-true b 16 q))
    by true false p q =
        let l = ltb-false b 16 q in
        let o = or_right a b in
        le-ltb (bit_or a b) 16 (omega arith)
    by false t p q =
        let l = ltb-false a 16 p in
        let o = or_left a b in
        le-ltb (bit_or a b) 16 (omega arith)

-- ---- one byte after others
all_more : (bs : List ℕ) (b : ℕ) → all_digits (bs ++ (b ∷ [])) ≡ all_digits bs && ltb (digit b) 16
unfolding all_digits
all_more [] b = go (ltb (digit b) 16)
  where
    go : (t : Bool) → (t && true) ≡ t
    go true = refl
    go false = refl
all_more (c ∷ bs) b = go (ltb (digit c) 16) (all_more bs b)
  where
    go : (t : Bool) → all_digits (bs ++ (b ∷ [])) ≡ all_digits bs && ltb (digit b) 16
        → (t && all_digits (bs ++ (b ∷ []))) ≡ (t && all_digits bs) && ltb (digit b) 16
    go true e = e
    go false e = refl

hexadecimal_more : (bs : List ℕ) (b w : ℕ)
    → hexadecimal w (bs ++ (b ∷ [])) ≡ hexadecimal w bs * 16 + digit b
unfolding hexadecimal
hexadecimal_more [] b w = refl
hexadecimal_more (c ∷ bs) b w = hexadecimal_more bs b (w * 16 + digit c)

-- ---- the loop, after k bytes: whether all are digits, and then their number; and it fits
pub record Taking (bytes : List ℕ) (w bits k : ℕ) : Type 0 where
  pub tested : ltb bits 16 ≡ all_digits (take k bytes)
  pub word : bits < 16 → w ≡ hexadecimal 0 (take k bytes)
  pub fits : w < 16 ^ k

pub taking_start : (bytes : List ℕ) → Taking bytes 0 0 0
unfolding all_digits hexadecimal
taking_start bytes = record { tested = refl; word = λ h. refl; fits = omega arith }

module _ (bytes : List ℕ) (w bits k : ℕ) (t : Taking bytes w bits k) where
  -- there is room for one digit more
  power : k < 16 → 16 ^ k * 16 ≤ 2 ^ 64
  power l =
      let p = pow-suc 16 k in
      let m = pow-le-pow_right {n = 16} (omega arith) {i = suc k} {j = 16} (omega arith) in
      omega arith

  pub times_fits : k < 16 → w * 16 < 2 ^ 64
  times_fits l = let f = t.fits in let p = power l in omega arith

  -- d is the value, v its digit
  pub word_fits : (d v : ℕ) → k < 16 → v ≡ d % 16 → w * 16 + v < 2 ^ 64
  word_fits d v l e = let f = t.fits in let p = power l in omega arith

  pub taking_more : (d v : ℕ) → d ≡ digit (get_or bytes k 0) → v ≡ d % 16 → k < 16 → 17 ≤ length bytes
      → Taking bytes (w * 16 + v) (bit_or bits d) (k + 1)
  taking_more d v e y h m =
      let b = get_or bytes k 0 in
      let s = sym (take-suc bytes k 0 (omega arith)) in
      rw add-one (record {
        tested =
            or_below bits d
            ∙ ap₂ (λ (x y : Bool). x && y) t.tested (ap (λ (n : ℕ). ltb n 16) e)
            ∙ sym (all_more (take k bytes) b) ∙ ap all_digits s;
        word = λ l.
            let o = or_left bits d in
            let q = or_right bits d in
            let i : w ≡ hexadecimal 0 (take k bytes) = t.word (omega arith) in
            let j : v ≡ digit b = omega arith in
            ap₂ (λ (x y : ℕ). x * 16 + y) i j ∙ sym (hexadecimal_more (take k bytes) b 0)
            ∙ ap (hexadecimal 0) s;
        fits = let p = pow-suc 16 k in let f = t.fits in omega arith;
      })

-- ---- the returns
module _ (bytes : List ℕ) where
  malformed : starts_line bytes ≡ false → None ≡ line_read bytes
  unfolding line_read
  malformed e = no _ e refl

  pub line_short : length bytes < 17 → None ≡ line_read bytes
  unfolding starts_line
  line_short h = malformed (rw (lt-leb 17 (length bytes) h) refl)

  pub line_feed_wrong : (get_or bytes 16 0 ≡ 10 → ⊥) → None ≡ line_read bytes
  unfolding starts_line
  line_feed_wrong n =
      malformed
      (ap (λ (t : Bool). leb 17 (length bytes) && all_digits (take 16 bytes) && t)
      (ne_eqb (get_or bytes 16 0) 10 n)
      ∙ and_off (leb 17 (length bytes) && all_digits (take 16 bytes)))

  -- after the loop, k is 16
  module _ (w bits k : ℕ) (t : Taking bytes w bits k) (low : 16 ≤ k) (high : k ≤ 16) where
    beyond : Taking bytes w bits 16
    beyond = let e : k ≡ 16 = omega arith in rw e at t

    pub line_digit_wrong : 16 ≤ bits → None ≡ line_read bytes
    unfolding starts_line
    line_digit_wrong h =
        malformed
        (ap (λ (t : Bool). leb 17 (length bytes) && t && eqb (get_or bytes 16 0) 10)
        (sym beyond.tested ∙ le-ltb bits 16 h)
        ∙ ap (λ (t : Bool). t && eqb (get_or bytes 16 0) 10) (and_off (leb 17 (length bytes))))

    pub line_done : 17 ≤ length bytes → bits < 16 → get_or bytes 16 0 ≡ 10
        → Some w ≡ line_read bytes
    unfolding line_read starts_line line_word
    line_done m h n =
        yes _
        (rw (
          le-leb 17 (length bytes) m,
          sym beyond.tested ∙ lt-ltb bits 16 h,
          eq-eqb (get_or bytes 16 0) 10 n,
        ) refl)
        (ap Some (beyond.word h))

pub ruleset line_laws = (line_short, line_digit_wrong, line_feed_wrong, line_done)
