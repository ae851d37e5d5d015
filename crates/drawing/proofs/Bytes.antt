-- The lines of a right text, written, are the text; and their numbers have at most 16 digits.
-- Assumes nothing.
use mathlib.Core.Path.{◌≡◌, refl, sym, ap, ap₂, ◌∙◌}
use mathlib.Core.Logic.{inl, inr}
use mathlib.Core.Bool.{Bool, true, false}
use mathlib.Core.List.{List, [], ◌∷◌, ◌++◌}
use Prim.Native.Nat.{ℕ, zero, suc, ◌+◌, ◌-◌, ◌*◌, ◌/◌, ◌%◌, ◌^◌, ◌≤◌, ◌<◌}
use native.Mathlib.Omega.{arith}
use lib.Dec.{eqb, ltb}
use lib.ListN.{length, get_or, take, drop, length-take, length-drop, take-append-drop}
use lib.Seq.{drop-cons, get_or-take, get_or-drop}
use borrow.Author.Tests.{ltb-true, ltb-false, lt-ltb, le-ltb, eqb-true, eqb-false, eq-eqb, ne_eqb}
use Rattle.basics.specs.If.{when◌then◌else◌}
use Rattle.basics.proofs.Ifs.{if_all, if_yes, if_no}
use Rattle.text.specs.Digits.{digit}
use Rattle.text.specs.Frames.{hexadecimal, line_word, words_of}
use Rattle.text.specs.Reading.{right_at, WrongAt}
use Rattle.text.specs.Digits.{digit_byte}
use Rattle.drawing.specs.Texts.{digits_onto, bytes_of}

-- ---- a digit's byte is the byte of its value
pub digit_byte_lem : (b : ℕ) → digit b < 16 → digit_byte (digit b) ≡ b
unfolding digit digit_byte
digit_byte_lem b = if_all (λ d. d < 16 → digit_byte d ≡ b) (ltb b 48) _ _ (λ h l. absurd (omega arith))
    (λ h. if_all (λ d. d < 16 → digit_byte d ≡ b) (ltb b 58) _ _ (λ k l. (let x = ltb-false b 48 h in let y = ltb-true b 58 k in if_yes (48 + (b - 48)) (55 + (b - 48)) (lt-ltb (b - 48) 10 (omega arith)) ∙ omega arith))
    (λ k. if_all (λ d. d < 16 → digit_byte d ≡ b) (ltb b 65) _ _ (λ m l. absurd (omega arith))
    (λ m. if_all (λ d. d < 16 → digit_byte d ≡ b) (ltb b 71) _ _ (λ n l. (let x = ltb-false b 65 m in let y = ltb-true b 71 n in if_no (48 + (b - 55)) (55 + (b - 55)) (le-ltb (b - 55) 10 (omega arith)) ∙ omega arith)) (λ n l. absurd (omega arith)))))

-- every byte is a digit
abbrev pub Digits : List ℕ → Type 0
Digits bs = (q : ℕ) → q < length bs → digit (get_or bs q 0) < 16

-- ---- the digits of the number that digits write
digits_back : (bs : List ℕ) (m w : ℕ) (rest : List ℕ) → Digits bs
    → digits_onto (length bs + m) (hexadecimal w bs) rest ≡ digits_onto m w (bs ++ rest)
unfolding hexadecimal digits_onto
digits_back [] m w rest h = let e : 0 + m ≡ m = omega arith in ap (λ (n : ℕ). digits_onto n w rest) e
digits_back (b ∷ bs) m w rest h =
    let d : digit b < 16 = h 0 (omega arith) in
    let e : suc (length bs) + m ≡ length bs + suc m = omega arith in
    let p : (w * 16 + digit b) / 16 ≡ w = omega arith in
    let q : (w * 16 + digit b) % 16 ≡ digit b = omega arith in
    ap (λ (n : ℕ). digits_onto n (hexadecimal (w * 16 + digit b) bs) rest) e
    ∙ digits_back bs (suc m) (w * 16 + digit b) rest (λ i l. h (suc i) (omega arith))
    ∙ ap₂ (λ (x y : ℕ). digits_onto m x (y ∷ (bs ++ rest))) p (ap digit_byte q ∙ digit_byte_lem b d)

-- ---- sixteen digits write a number below 16 ^ 16
unfoldable pub shifted : ℕ → ℕ → ℕ
shifted zero w = w
shifted (suc n) w = shifted n (w * 16)

shifted_more : (n : ℕ) {v w : ℕ} → v ≤ w → shifted n v ≤ shifted n w
unfolding shifted
shifted_more zero l = l
shifted_more (suc n) l = shifted_more n (omega arith)

hex_small : (bs : List ℕ) (w : ℕ) → Digits bs → hexadecimal w bs < shifted (length bs) (suc w)
unfolding hexadecimal shifted
hex_small [] w h = omega arith
hex_small (b ∷ bs) w h =
    let d : digit b < 16 = h 0 (omega arith) in
    let a = hex_small bs (w * 16 + digit b) (λ i l. h (suc i) (omega arith)) in
    let c = shifted_more (length bs) {v = suc (w * 16 + digit b)} {w = suc w * 16} (omega arith) in
    omega arith

sixteen : shifted 16 1 ≡ 16 ^ 16
unfolding shifted
sixteen = refl

-- ---- a text that is n such lines: from a position that begins a line
pub record Right (n : ℕ) (bs : List ℕ) : Type 0 where
  pub size : length bs ≡ 17 * n
  pub bytes : (q : ℕ) → q < length bs → right_at q (get_or bs q 0) ≡ true

right_digit : (q b : ℕ) → right_at q b ≡ true → (q % 17 ≡ 16 → ⊥) → digit b < 16
unfolding right_at
right_digit q b h n =
    ltb-true (digit b) 16 (sym (if_no (eqb b 10) (ltb (digit b) 16) (ne_eqb (q % 17) 16 n)) ∙ h)

right_feed : (q b : ℕ) → right_at q b ≡ true → q % 17 ≡ 16 → b ≡ 10
unfolding right_at
right_feed q b h e =
    eqb-true b 10 (sym (if_yes (eqb b 10) (ltb (digit b) 16) (eq-eqb (q % 17) 16 e)) ∙ h)

right_same : (p q b : ℕ) → p % 17 ≡ q % 17 → right_at p b ≡ right_at q b
unfolding right_at
right_same p q b e = ap (λ (n : ℕ). when eqb n 16 then eqb b 10 else ltb (digit b) 16) e

module _ (n : ℕ) (bs : List ℕ) (r : Right (suc n) bs) where
  right_tail : Right n (drop 17 bs)
  right_tail =
      let s = r.size in
      let l = length-drop 17 bs in
      record { size = omega arith; bytes = λ q h. right_same q (17 + q) (get_or (drop 17 bs) q 0) (omega arith) ∙ ap (right_at (17 + q)) (get_or-drop 17 bs q 0) ∙ r.bytes (17 + q) (omega arith) }

  head_length : length (take 16 bs) ≡ 16
  head_length = let s = r.size in length-take 16 bs ∙ omega arith

  head_digits : Digits (take 16 bs)
  head_digits q h =
      let s = r.size in
      let l = head_length in
      rw (get_or-take 16 bs q 0 (omega arith)) (right_digit q (get_or bs q 0) (r.bytes q (omega arith)) (λ e. omega arith))

  first_line : take 16 bs ++ (10 ∷ drop 17 bs) ≡ bs
  first_line =
      let s = r.size in
      let f : get_or bs 16 0 ≡ 10 = right_feed 16 (get_or bs 16 0) (r.bytes 16 (omega arith)) refl in
      ap (λ (b : ℕ). take 16 bs ++ (b ∷ drop 17 bs)) (sym f) ∙ ap (λ (t : List ℕ). take 16 bs ++ t) (sym (drop-cons bs 16 0 (omega arith))) ∙ take-append-drop 16 bs

  line_small : line_word bs < 16 ^ 16
  unfolding line_word
  line_small =
      let a = hex_small (take 16 bs) 0 head_digits in
      let e : shifted (length (take 16 bs)) 1 ≡ 16 ^ 16 = ap (λ (k : ℕ). shifted k 1) head_length ∙ sixteen in
      omega arith

  line_bytes : (rest : List ℕ) → digits_onto 16 (line_word bs) (10 ∷ rest) ≡ take 16 bs ++ (10 ∷ rest)
  unfolding line_word digits_onto
  line_bytes rest =
      let l = head_length in
      let e : 16 ≡ length (take 16 bs) + 0 = omega arith in
      ap (λ (k : ℕ). digits_onto k (hexadecimal 0 (take 16 bs)) (10 ∷ rest)) e ∙ digits_back (take 16 bs) 0 0 (10 ∷ rest) head_digits

pub bytes_back : (n : ℕ) (bs : List ℕ) → Right n bs → bytes_of (words_of n bs) ≡ bs
unfolding bytes_of words_of
bytes_back zero [] r = refl
bytes_back zero (b ∷ bs) r = let s = r.size in absurd (omega arith)
bytes_back (suc n) bs r =
    line_bytes n bs r (bytes_of (words_of n (drop 17 bs)))
    ∙ ap (λ (t : List ℕ). take 16 bs ++ (10 ∷ t)) (bytes_back n (drop 17 bs) (right_tail n bs r))
    ∙ first_line n bs r

pub words_small : (n : ℕ) (bs : List ℕ) → Right n bs → (i : ℕ) → get_or (words_of n bs) i 0 < 16 ^ 16
unfolding words_of
words_small zero bs r i = omega arith
words_small (suc n) bs r zero = line_small n bs r
words_small (suc n) bs r (suc i) = words_small n (drop 17 bs) (right_tail n bs r) i

-- ---- a text without a wrong or missing byte
pub right_text : (bs : List ℕ) → ((q : ℕ) → WrongAt bs q → ⊥) → Right (length bs / 17) bs
right_text bs h =
    record { size = (let e = whole (eqb (length bs % 17) 0) refl in omega arith); bytes = λ q l. byte q l (right_at q (get_or bs q 0)) refl }
  where
    whole : (b : Bool) → eqb (length bs % 17) 0 ≡ b → length bs % 17 ≡ 0
    whole true e = eqb-true (length bs % 17) 0 e
    whole false e = absurd (h (length bs) (inr (refl, eqb-false (length bs % 17) 0 e)))

    byte : (q : ℕ) → q < length bs → (b : Bool) → right_at q (get_or bs q 0) ≡ b → b ≡ true
    byte q l true e = refl
    byte q l false e = absurd (h q (inl (l, e)))
