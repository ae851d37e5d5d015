-- A line as one number, and its fields. Assumes nothing.
use mathlib.Core.Path.{◌≡◌, ap, ap₂}
use Prim.Native.Nat.{ℕ, ◌+◌, ◌*◌, ◌/◌, ◌%◌, ◌^◌, ◌<◌}
use native.Mathlib.Omega.{arith}
use Rattle.language.specs.Kinds.{kind_of}
use Rattle.language.specs.declared.frame.Frame.{Frame}
use Rattle.text.specs.Frames.{frame_of_word}
use Rattle.drawing.specs.Drawings.{line_from, head_of}

abbrev frame : ℕ → ℕ → ℕ → ℕ → ℕ → Frame
frame k s a b c = record { kind = kind_of k; s = s; a = a; b = b; c = c }

-- a line's frame, from its first four digits and its fields
abbrev pub frame_of : ℕ → ℕ → ℕ → ℕ → Frame
frame_of h a b c = frame (h / 16 ^ 2) (h % 16 ^ 2) a b c

module _ (h a b c : ℕ) (lh : h < 16 ^ 4) (la : a < 16 ^ 4) (lb : b < 16 ^ 4) (lc : c < 16 ^ 4) where
  pub word_head : head_of (line_from h a b c) ≡ h
  word_head = omega arith

  word_k : line_from h a b c / 16 ^ 14 % 16 ^ 2 ≡ h / 16 ^ 2
  word_k = omega arith

  word_s : line_from h a b c / 16 ^ 12 % 16 ^ 2 ≡ h % 16 ^ 2
  word_s = omega arith

  word_a : line_from h a b c / 16 ^ 8 % 16 ^ 4 ≡ a
  word_a = omega arith

  word_b : line_from h a b c / 16 ^ 4 % 16 ^ 4 ≡ b
  word_b = omega arith

  word_c : line_from h a b c % 16 ^ 4 ≡ c
  word_c = omega arith

  pub word_frame : frame_of_word (line_from h a b c) ≡ frame_of h a b c
  unfolding frame_of_word
  word_frame =
      let p = ap kind_of word_k in
      let q = word_s in
      let x = word_a in
      let y = word_b in
      let z = word_c in
      cc

pub frame_head : (w : ℕ)
    → frame_of_word w ≡ frame_of (head_of w) (frame_of_word w).a (frame_of_word w).b (frame_of_word w).c
unfolding frame_of_word
frame_head w =
    let p : w / 16 ^ 14 % 16 ^ 2 ≡ head_of w / 16 ^ 2 = omega arith in
    let q : w / 16 ^ 12 % 16 ^ 2 ≡ head_of w % 16 ^ 2 = omega arith in
    ap₂ (λ (k s : ℕ). frame k s (frame_of_word w).a (frame_of_word w).b (frame_of_word w).c) p q

pub frame_fits : (w : ℕ)
    → ((frame_of_word w).a < 16 ^ 4) × ((frame_of_word w).b < 16 ^ 4) × ((frame_of_word w).c < 16 ^ 4)
unfolding frame_of_word
frame_fits w = (omega arith, omega arith, omega arith)

pub frame_word : (w : ℕ) → w < 16 ^ 16
    → line_from (head_of w) (frame_of_word w).a (frame_of_word w).b (frame_of_word w).c ≡ w
unfolding frame_of_word
frame_word w l =
    let a : w / 16 ^ 8 ≡ w / 16 ^ 4 / 16 ^ 4 = omega arith in
    let b : w / 16 ^ 12 ≡ w / 16 ^ 8 / 16 ^ 4 = omega arith in
    let d : w / 16 ^ 12 % 16 ^ 4 ≡ w / 16 ^ 12 = omega arith in
    let e : w ≡ w / 16 ^ 4 * 16 ^ 4 + w % 16 ^ 4 = omega arith in
    let f : w / 16 ^ 4 ≡ w / 16 ^ 8 * 16 ^ 4 + w / 16 ^ 4 % 16 ^ 4 = omega arith in
    let g : w / 16 ^ 8 ≡ w / 16 ^ 12 * 16 ^ 4 + w / 16 ^ 8 % 16 ^ 4 = omega arith in
    omega arith
