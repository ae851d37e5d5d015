-- A line that is read is a step of the scan for the first wrong byte: the scan stops in a malformed
-- line, and goes on 17 bytes later after a right one. Assumes nothing.
use Rattle.std.specs.Prelude.{Option, Some, None}
use Rattle.std.proofs.Common.{◌≡◌, ℕ, zero, suc, ◌+◌, ◌%◌, ◌<◌, ◌≤◌, Bool, true, false, ◌&&◌, eqb, ltb, leb, List, [], ◌∷◌, length, get_or, take, drop, sym, refl, ap, ◌∙◌, subst, true≢false, add-suc, arith, drop-cons, ltb-true, lt-ltb, eq-eqb, ne_eqb, leb-false, leb-true}
use mathlib.Core.Option.{none, some}
use Rattle.basics.specs.If.{when◌then◌else◌}
use Rattle.basics.proofs.Ifs.{if_yes, if_no, and_true}
use Rattle.text.specs.Digits.{digit}
use Rattle.text.specs.Frames.{line_word}
use Rattle.text.specs.Reading.{right_at}
use Rattle.text.specs.Inner.Reading.{first_wrong}
use Rattle.text.specs.Inner.Lines.{all_digits, starts_line, line_read}

-- ---- the scan, a byte at a time
module _ (p b : ℕ) (bs : List ℕ) where
  scan_right : right_at p b ≡ true → first_wrong p (b ∷ bs) ≡ first_wrong (suc p) bs
  unfolding first_wrong
  scan_right h = ap (λ (t : Bool). elim t [ true ↦ first_wrong (suc p) bs | false ↦ some p ]) h

  scan_wrong : right_at p b ≡ false → first_wrong p (b ∷ bs) ≡ some p
  unfolding first_wrong
  scan_wrong h = ap (λ (t : Bool). elim t [ true ↦ first_wrong (suc p) bs | false ↦ some p ]) h

pub scan_whole : (p : ℕ) → p % 17 ≡ 0 → first_wrong p [] ≡ none
unfolding first_wrong
scan_whole p h = if_yes _ _ (eq-eqb _ _ h)

scan_short : (p : ℕ) → (p % 17 ≡ 0 → ⊥) → first_wrong p [] ≡ some p
unfolding first_wrong
scan_short p h = if_no _ _ (ne_eqb _ _ h)

right_feed : (p b : ℕ) → p % 17 ≡ 16 → right_at p b ≡ eqb b 10
unfolding right_at
right_feed p b h = if_yes _ _ (eq-eqb _ _ h)

right_digit : (p b : ℕ) → (p % 17 ≡ 16 → ⊥) → right_at p b ≡ ltb (digit b) 16
unfolding right_at
right_digit p b h = if_no _ _ (ne_eqb _ _ h)

-- ---- bytes from place k of a line on, where the line begins at p

-- the scan stops in this line
abbrev Stops : ℕ → ℕ → List ℕ → Type 0
Stops p k bs = (j : ℕ) × (j ≤ 16) × (first_wrong (p + k) bs ≡ some (p + j))

module _ (p : ℕ) (z : p % 17 ≡ 0) where
  module _ (k b : ℕ) (bs : List ℕ) (h : k < 16) where
    digit_right : digit b < 16 → first_wrong (p + k) (b ∷ bs) ≡ first_wrong (p + suc k) bs
    digit_right d =
        scan_right (p + k) b bs (right_digit (p + k) b (λ q. omega arith) ∙ lt-ltb _ _ d)
        ∙ ap (λ (n : ℕ). first_wrong n bs) (sym (add-suc p k))

    -- where a digit is due, the scan stops at once or goes on
    digit_due : (digit b < 16 → Stops p (suc k) bs) → Stops p k (b ∷ bs)
    digit_due f = by (ltb (digit b) 16) refl
      where
        by : (t : Bool) → ltb (digit b) 16 ≡ t → Stops p k (b ∷ bs)
        by true e =
            let d = ltb-true (digit b) 16 e in
            let r = f d in
            (r.0, r.1, digit_right d ∙ r.2)
        by false e = (
          k,
          omega arith,
          scan_wrong (p + k) b bs (right_digit (p + k) b (λ q. omega arith) ∙ e),
        )

  -- the text ends inside the line, of which at least one byte is there
  line_ends : (bs : List ℕ) (k : ℕ) → 0 < k + length bs → k + length bs ≤ 16 → Stops p k bs
  line_ends [] k a h = (k, omega arith, scan_short (p + k) (λ q. omega arith))
  line_ends (b ∷ bs) k a h =
      digit_due k b bs (omega arith) (λ d. line_ends bs (suc k) (omega arith) (omega arith))

  -- n bytes where digits are due: one is none, or all are digits
  digits_wrong : (n : ℕ) (bs : List ℕ) (k : ℕ) → k + n ≤ 16 → all_digits (take n bs) ≡ false
      → Stops p k bs
  unfolding all_digits
  digits_wrong zero bs k h e = absurd (true≢false e)
  digits_wrong (suc n) [] k h e = absurd (true≢false e)
  digits_wrong (suc n) (b ∷ bs) k h e =
      digit_due k b bs (omega arith)
      (λ d. digits_wrong n bs (suc k) (omega arith) (rw (lt-ltb (digit b) 16 d) at e))

  digits_right : (n : ℕ) (bs : List ℕ) (k : ℕ) → k + n ≤ 16 → n ≤ length bs
      → all_digits (take n bs) ≡ true → first_wrong (p + k) bs ≡ first_wrong (p + (k + n)) (drop n bs)
  unfolding all_digits
  digits_right zero bs k h l e = ap (λ (n : ℕ). first_wrong n bs) (omega arith)
  digits_right (suc n) [] k h l e = absurd (omega arith)
  digits_right (suc n) (b ∷ bs) k h l e =
      let t = and_true (ltb (digit b) 16) (all_digits (take n bs)) e in
      digit_right k b bs (omega arith) (ltb-true (digit b) 16 t.0)
      ∙ digits_right n bs (suc k) (omega arith) (omega arith) t.1
      ∙ ap (λ (m : ℕ). first_wrong (p + m) (drop n bs)) (omega arith)

-- ---- a whole line, of a text that stands from p on: the scan stops in it, or goes on after it
module _ (bs : List ℕ) (p : ℕ) (z : p % 17 ≡ 0) (some_left : 0 < length bs) where
  -- the first 16 bytes are digits, and there is one more
  feed_due : 17 ≤ length bs → all_digits (take 16 bs) ≡ true
      → first_wrong p bs ≡ first_wrong (p + 16) (get_or bs 16 0 ∷ drop 17 bs)
  feed_due h e =
      ap (λ (n : ℕ). first_wrong n bs) (omega arith)
      ∙ digits_right p z 16 bs 0 (omega arith) (omega arith) e
      ∙ ap (first_wrong (p + 16)) (drop-cons bs 16 0 (omega arith))

  feed_right : 17 ≤ length bs → all_digits (take 16 bs) ≡ true → eqb (get_or bs 16 0) 10 ≡ true
      → first_wrong p bs ≡ first_wrong (p + 17) (drop 17 bs)
  feed_right h e f =
      feed_due h e
      ∙ scan_right (p + 16) (get_or bs 16 0) (drop 17 bs) (right_feed (p + 16) _ (omega arith) ∙ f)
      ∙ ap (λ (n : ℕ). first_wrong n (drop 17 bs)) (omega arith)

  feed_wrong : 17 ≤ length bs → all_digits (take 16 bs) ≡ true → eqb (get_or bs 16 0) 10 ≡ false
      → first_wrong p bs ≡ some (p + 16)
  feed_wrong h e f =
      feed_due h e
      ∙ scan_wrong (p + 16) (get_or bs 16 0) (drop 17 bs) (right_feed (p + 16) _ (omega arith) ∙ f)

  -- what the scan does, by the line that is read
  data Scanned : Option ℕ → Type 0 where
    stop : {j : ℕ} → j ≤ 16 → first_wrong p bs ≡ some (p + j) → Scanned None
    pass : {w : ℕ} → 17 ≤ length bs → first_wrong p bs ≡ first_wrong (p + 17) (drop 17 bs)
        → w ≡ line_word bs → Scanned (Some w)

  stops : Stops p 0 bs → Scanned None
  stops r = stop r.1 (ap (λ (n : ℕ). first_wrong n bs) (omega arith) ∙ r.2)

  scanned : Scanned (line_read bs)
  unfolding line_read starts_line when◌then◌else◌
  scanned = by (leb 17 (length bs)) (all_digits (take 16 bs)) (eqb (get_or bs 16 0) 10) refl refl refl
    where
      by : (s t u : Bool) → leb 17 (length bs) ≡ s → all_digits (take 16 bs) ≡ t
          → eqb (get_or bs 16 0) 10 ≡ u
          → Scanned (when s && t && u then Some (line_word bs) else None)
      by false t u a b c =
          let l = leb-false 17 (length bs) a in
          stops (line_ends p z bs 0 (omega arith) (omega arith))
      by true false u a b c = stops (digits_wrong p z 16 bs 0 (omega arith) b)
      by true true false a b c =
          let l = leb-true 17 (length bs) a in
          stop {j = 16} (omega arith) (feed_wrong l b c)
      by true true true a b c =
          let l = leb-true 17 (length bs) a in
          pass l (feed_right l b c) refl

  pub line_wrong : None ≡ line_read bs
      → (j : ℕ) × (j ≤ 16) × (first_wrong p bs ≡ some (p + j))
  line_wrong e = go (subst Scanned (sym e) scanned)
    where
      go : Scanned None → (j : ℕ) × (j ≤ 16) × (first_wrong p bs ≡ some (p + j))
      go (stop {j = j} l f) = (j, l, f)

  pub line_word_lem : (w : ℕ) → Some w ≡ line_read bs
      → (17 ≤ length bs) × (first_wrong p bs ≡ first_wrong (p + 17) (drop 17 bs)) × (w ≡ line_word bs)
  line_word_lem w e = go (subst Scanned (sym e) scanned)
    where
      go : Scanned (Some w) → (17 ≤ length bs)
          × (first_wrong p bs ≡ first_wrong (p + 17) (drop 17 bs)) × (w ≡ line_word bs)
      go (pass l f v) = (l, f, v)
