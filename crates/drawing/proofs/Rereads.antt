-- Lines written as bytes are read as these lines. Assumes nothing.
use mathlib.Core.Path.{◌≡◌, refl, sym, ap, ap₂, subst, ◌∙◌}
use mathlib.Core.Logic.{inl, inr}
use mathlib.Core.Bool.{Bool, true, false, true≢false}
use mathlib.Core.List.{List, [], ◌∷◌, ◌++◌, append_assoc}
use Prim.Native.Nat.{ℕ, zero, suc, ◌+◌, ◌-◌, ◌*◌, ◌/◌, ◌%◌, ◌^◌, ◌≤◌, ◌<◌}
use native.Mathlib.Omega.{arith}
use lib.Dec.{eqb, ltb}
use lib.ListN.{length, get_or, drop, length-append, get_or-append}
use lib.Seq.{take_at, drop_at, get_or-append-add}
use borrow.Author.Tests.{ltb-true, ltb-false, lt-ltb, le-ltb, eq-eqb, ne_eqb}
use Rattle.basics.specs.If.{when◌then◌else◌}
use Rattle.basics.specs.Members.{All}
use Rattle.basics.proofs.Ifs.{if_all, if_yes, if_no}
use Rattle.text.specs.Digits.{digit}
use Rattle.text.specs.Frames.{hexadecimal, line_word, words_of, frames_of, text_frames}
use Rattle.text.specs.Reading.{right_at, WrongAt, Reads, frames}
use Rattle.text.specs.Digits.{digit_byte}
use Rattle.drawing.specs.Texts.{digits_onto, bytes_of, lines_in}
use Rattle.drawing.proofs.Bytes.{Digits, Right, shifted}

-- ---- the value of a digit's byte
byte_digit : (n : ℕ) → n < 16 → digit (digit_byte n) ≡ n
unfolding digit digit_byte
byte_digit n l = if_all (λ b. digit b ≡ n) (ltb n 10) (48 + n) (55 + n)
    (λ h. (let a = ltb-true n 10 h in if_no _ _ (le-ltb (48 + n) 48 (omega arith)) ∙ if_yes _ _ (lt-ltb (48 + n) 58 (omega arith)) ∙ omega arith))
    (λ h. (let a = ltb-false n 10 h in if_no _ _ (le-ltb (55 + n) 48 (omega arith)) ∙ if_no _ _ (le-ltb (55 + n) 58 (omega arith)) ∙ if_no _ _ (le-ltb (55 + n) 65 (omega arith)) ∙ if_yes _ _ (lt-ltb (55 + n) 71 (omega arith)) ∙ omega arith))

shifted_times : (n w : ℕ) → shifted n (w * 16) ≡ shifted n w * 16
unfolding shifted
shifted_times zero w = refl
shifted_times (suc n) w = shifted_times n (w * 16)

-- ---- the number that the digits of w write is w
hex_back : (n w : ℕ) (rest : List ℕ) → w < shifted n 1
    → hexadecimal 0 (digits_onto n w rest) ≡ hexadecimal w rest
unfolding digits_onto hexadecimal shifted
hex_back zero w rest l = let e : 0 ≡ w = omega arith in ap (λ (k : ℕ). hexadecimal k rest) e
hex_back (suc n) w rest l =
    let s = shifted_times n 1 in
    let a = hex_back n (w / 16) (digit_byte (w % 16) ∷ rest) (omega arith) in
    let d = byte_digit (w % 16) (omega arith) in
    let e : w / 16 * 16 + digit (digit_byte (w % 16)) ≡ w = omega arith in
    a ∙ ap (λ (k : ℕ). hexadecimal k rest) e

onto_append : (n w : ℕ) (xs ys : List ℕ) → digits_onto n w (xs ++ ys) ≡ digits_onto n w xs ++ ys
unfolding digits_onto
onto_append zero w xs ys = refl
onto_append (suc n) w xs ys = onto_append n (w / 16) (digit_byte (w % 16) ∷ xs) ys

onto_length : (n w : ℕ) (xs : List ℕ) → length (digits_onto n w xs) ≡ n + length xs
unfolding digits_onto
onto_length zero w xs = omega arith
onto_length (suc n) w xs = let e = onto_length n (w / 16) (digit_byte (w % 16) ∷ xs) in omega arith

onto_digits : (n w : ℕ) (xs : List ℕ) → Digits xs → Digits (digits_onto n w xs)
unfolding digits_onto
onto_digits zero w xs h = h
onto_digits (suc n) w xs h = onto_digits n (w / 16) (digit_byte (w % 16) ∷ xs) go
  where
    go : Digits (digit_byte (w % 16) ∷ xs)
    go zero l = let d = byte_digit (w % 16) (omega arith) in omega arith
    go (suc q) l = h q (omega arith)

-- ---- one line in front of a right text
module _ (w : ℕ) (small : w < 16 ^ 16) where
  abbrev D : List ℕ
  D = digits_onto 16 w []

  sixteen : length D ≡ 16
  sixteen = onto_length 16 w []

  line_first : (bs : List ℕ) → line_word (D ++ (10 ∷ bs)) ≡ w
  unfolding line_word shifted hexadecimal
  line_first bs = ap (hexadecimal 0) (take_at D (10 ∷ bs) 16 sixteen) ∙ hex_back 16 w [] small

  line_rest : (bs : List ℕ) → drop 17 (D ++ (10 ∷ bs)) ≡ bs
  line_rest bs =
      let e : D ++ (10 ∷ bs) ≡ (D ++ (10 ∷ [])) ++ bs = sym (append_assoc D (10 ∷ []) bs) in
      let l : length (D ++ (10 ∷ [])) ≡ 17 = (let s = sixteen in simp length-append (omega arith)) in
      ap (drop 17) e ∙ drop_at (D ++ (10 ∷ [])) bs 17 l

  line_right : (n : ℕ) (bs : List ℕ) → Right n bs → Right (suc n) (D ++ (10 ∷ bs))
  unfolding right_at
  line_right n bs r =
      let s = r.size in
      let l = sixteen in
      record { size = simp length-append (omega arith); bytes = λ q h. go q h (ltb q 16) refl (ltb 16 q) refl }
    where
      go : (q : ℕ) → q < length (D ++ (10 ∷ bs)) → (x : Bool) → ltb q 16 ≡ x → (y : Bool)
          → ltb 16 q ≡ y → right_at q (get_or (D ++ (10 ∷ bs)) q 0) ≡ true
      go q h true e y f =
          let a = ltb-true q 16 e in
          let l = sixteen in
          let d = onto_digits 16 w [] (λ i k. absurd (omega arith)) q (omega arith) in
          if_no (eqb (get_or (D ++ (10 ∷ bs)) q 0) 10) _ (ne_eqb (q % 17) 16 (λ z. omega arith)) ∙ ap (λ (b : ℕ). ltb (digit b) 16) (get_or-append D (10 ∷ bs) 0 q (omega arith)) ∙ lt-ltb (digit (get_or D q 0)) 16 d
      go q h false e true f =
          let a = ltb-true 16 q f in
          let l = sixteen in
          let t = length-append D (10 ∷ bs) in
          let z : q ≡ length D + suc (q - 17) = omega arith in
          let g : get_or (D ++ (10 ∷ bs)) q 0 ≡ get_or bs (q - 17) 0 = ap (λ (k : ℕ). get_or (D ++ (10 ∷ bs)) k 0) z ∙ get_or-append-add D (10 ∷ bs) (suc (q - 17)) 0 in
          let m : q % 17 ≡ (q - 17) % 17 = omega arith in
          ap₂ (λ (k b : ℕ). when eqb k 16 then eqb b 10 else ltb (digit b) 16) m g ∙ r.bytes (q - 17) (omega arith)
      go q h false e false f =
          let a = ltb-false q 16 e in
          let b = ltb-false 16 q f in
          let l = sixteen in
          let z : q ≡ length D + 0 = omega arith in
          let g : get_or (D ++ (10 ∷ bs)) q 0 ≡ 10 = ap (λ (k : ℕ). get_or (D ++ (10 ∷ bs)) k 0) z ∙ get_or-append-add D (10 ∷ bs) 0 0 in
          if_yes _ _ (eq-eqb (q % 17) 16 (omega arith)) ∙ ap (λ (b : ℕ). eqb b 10) g

pub bytes_cons : (w : ℕ) (ws : List ℕ) → bytes_of (w ∷ ws) ≡ digits_onto 16 w [] ++ (10 ∷ bytes_of ws)
unfolding bytes_of
bytes_cons w ws = onto_append 16 w [] (10 ∷ bytes_of ws)

pub bytes_right : {ws : List ℕ} → All (λ (w : ℕ). w < 16 ^ 16) ws → Right (length ws) (bytes_of ws)
unfolding bytes_of
bytes_right All.none = record { size = refl; bytes = λ q l. absurd (omega arith) }
bytes_right (All.more {x = w} {xs = ws} l h) =
    subst (Right (suc (length ws))) (sym (bytes_cons w ws)) (line_right w l (length ws) (bytes_of ws) (bytes_right h))

pub words_back : {ws : List ℕ} → All (λ (w : ℕ). w < 16 ^ 16) ws
    → words_of (length ws) (bytes_of ws) ≡ ws
unfolding words_of
words_back All.none = refl
words_back (All.more {x = w} {xs = ws} l h) =
    ap (λ (bs : List ℕ). line_word bs ∷ words_of (length ws) (drop 17 bs)) (bytes_cons w ws)
    ∙ ap₂ (λ (k : ℕ) (bs : List ℕ). k ∷ words_of (length ws) bs) (line_first w l (bytes_of ws)) (line_rest w l (bytes_of ws))
    ∙ ap (λ (t : List ℕ). w ∷ t) (words_back h)

-- ---- so the text reads as the lines' frames
pub lines_back : {ws : List ℕ} → All (λ (w : ℕ). w < 16 ^ 16) ws → lines_in (bytes_of ws) ≡ ws
lines_back {ws} h =
    let s = (bytes_right h).size in
    let e : length (bytes_of ws) / 17 ≡ length ws = omega arith in
    ap (λ (n : ℕ). words_of n (bytes_of ws)) e ∙ words_back h

pub bytes_read : {ws : List ℕ} → All (λ (w : ℕ). w < 16 ^ 16) ws → 0 < length ws → length ws ≤ 1024
    → Reads (bytes_of ws) (frames (frames_of ws))
unfolding text_frames
bytes_read {ws} h l s =
    let r = bytes_right h in
    let z = r.size in
    let whole : Reads (bytes_of ws) (frames (text_frames (bytes_of ws))) = Reads.whole {bs = bytes_of ws} (omega arith) (omega arith) (λ q w. none r q w) in
    subst (λ (k : List ℕ). Reads (bytes_of ws) (frames (frames_of k))) (lines_back h) whole
  where
    none : Right (length ws) (bytes_of ws) → (q : ℕ) → WrongAt (bytes_of ws) q → ⊥
    none r q (inl w) = true≢false (sym (r.bytes q w.0) ∙ w.1)
    none r q (inr w) = let z = r.size in let e = w.0 in w.1 (omega arith)
