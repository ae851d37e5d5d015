-- The count of frames: it is what its words say, each line that it counts is a frame and the line
-- after them is none; and the frames that a reader gives, which are as many. Assumes nothing.
use Rattle.std.specs.Prelude.{Option, Some, None}
use mathlib.Core.Path.{◌≡◌, refl, sym, ap, ◌∙◌}
use mathlib.Core.Bool.{Bool, true, false}
use mathlib.Core.List.{List, [], ◌∷◌}
use lib.Dec.{ltb}
use lib.ListN.{length}
use Prim.Native.Nat.{ℕ, zero, suc, ◌+◌, ◌-◌, ◌<◌, ◌≤◌}
use native.Mathlib.Numerals.{add-one}
use native.Mathlib.Omega.{arith}
use borrow.Author.Tests.{ltb-true, ltb-false}
use Rattle.basics.specs.If.{when◌then◌else◌}
use Rattle.basics.proofs.Ifs.{if_all, if_yes, if_no}
use Rattle.language.specs.declared.frame.Frame.{Frame}
use Rattle.text.specs.Inner.Lines.{frame_read}
use Rattle.text.proofs.FrameLaws.{frame_over}
use Rattle.lines.specs.Readers.{is_read, in_front, frames_of_next, frames_from, frames_until}

-- whether line n is a frame
abbrev is_frame : List ℕ → ℕ → Bool
is_frame bs n = is_read (frame_read bs n)

-- ---- one line of the count
module _ (k : ℕ) (bs : List ℕ) (n : ℕ) where
  next_frame : is_frame bs n ≡ true → frames_of_next (suc k) bs n ≡ suc (frames_of_next k bs (suc n))
  unfolding frames_of_next
  next_frame e = if_yes _ _ e

  next_none : is_frame bs n ≡ false → frames_of_next (suc k) bs n ≡ 0
  unfolding frames_of_next
  next_none e = if_no _ _ e

none_next : (bs : List ℕ) (n : ℕ) → frames_of_next 0 bs n ≡ 0
unfolding frames_of_next
none_next bs n = refl

-- ---- what the count says: of the k lines from n on, by recursion, and of all
next_counted : (k : ℕ) (bs : List ℕ) (n i : ℕ) → i < frames_of_next k bs n → is_frame bs (n + i) ≡ true
next_counted zero bs n i h = absurd (omega (arith, none_next bs n))
next_counted (suc k) bs n i h = by (is_frame bs n) refl (next_counted k bs (suc n))
  where
    by : (t : Bool) → is_frame bs n ≡ t
        → ((j : ℕ) → j < frames_of_next k bs (suc n) → is_frame bs (suc n + j) ≡ true)
        → is_frame bs (n + i) ≡ true
    by false e r = absurd (omega (arith, next_none k bs n e))
    by true e r = at i h
      where
        at : (j : ℕ) → j < frames_of_next (suc k) bs n → is_frame bs (n + j) ≡ true
        at zero l = ap (is_frame bs) (omega arith) ∙ e
        at (suc j) l = ap (is_frame bs) (omega arith) ∙ r j (omega (arith, next_frame k bs n e))

next_after : (k : ℕ) (bs : List ℕ) (n : ℕ) → 1024 ≤ n + k
    → is_frame bs (n + frames_of_next k bs n) ≡ false
next_after zero bs n h =
    let z = none_next bs n in
    ap is_read (sym (frame_over bs (n + frames_of_next 0 bs n) (omega arith)))
next_after (suc k) bs n h = by (is_frame bs n) refl (next_after k bs (suc n) (omega arith))
  where
    by : (t : Bool) → is_frame bs n ≡ t → is_frame bs (suc n + frames_of_next k bs (suc n)) ≡ false
        → is_frame bs (n + frames_of_next (suc k) bs n) ≡ false
    by false e r = let z = next_none k bs n e in ap (is_frame bs) (omega arith) ∙ e
    by true e r = let z = next_frame k bs n e in ap (is_frame bs) (omega arith) ∙ r

-- each counted line is a frame
pub frames_counted : (bs : List ℕ) (n i : ℕ) → i < frames_from bs n → is_frame bs (n + i) ≡ true
unfolding frames_from
frames_counted bs n i h = next_counted (1024 - n) bs n i h

-- the line after them is none
pub none_after : (bs : List ℕ) (n : ℕ) → is_frame bs (n + frames_from bs n) ≡ false
unfolding frames_from
none_after bs n = next_after (1024 - n) bs n (omega arith)

-- ---- the frames of those lines, as the iterator gives them

-- as many as were counted
until_length : (k : ℕ) (bs : List ℕ) (n : ℕ) → length (frames_until k bs n) ≡ frames_of_next k bs n
unfolding frames_until frames_of_next
until_length zero bs n = refl
until_length (suc k) bs n = by (frame_read bs n) (until_length k bs (n + 1) ∙ ap (frames_of_next k bs) (add-one n))
  where
    by : (o : Option Frame) → length (frames_until k bs (n + 1)) ≡ frames_of_next k bs (suc n)
        → length (in_front o (frames_until k bs (n + 1)))
        ≡ (when is_read o then suc (frames_of_next k bs (suc n)) else 0)
    by None e = sym (if_no _ _ refl)
    by (Some f) e = ap suc e ∙ sym (if_yes _ _ refl)

pub left_length : (bs : List ℕ) (n : ℕ) → length (frames_until (1024 - n) bs n) ≡ frames_from bs n
unfolding frames_from
left_length bs n = until_length (1024 - n) bs n

-- no more than there are lines
counted_le : (k : ℕ) (bs : List ℕ) (n : ℕ) → frames_of_next k bs n ≤ k
unfolding frames_of_next
counted_le zero bs n = omega arith
counted_le (suc k) bs n =
    if_all (λ m. m ≤ suc k) (is_frame bs n) _ _ (λ _. let l = counted_le k bs (suc n) in omega arith) (λ _. omega arith)

pub from_le : (bs : List ℕ) (n : ℕ) → frames_from bs n ≤ 1024
unfolding frames_from
from_le bs n = let l = counted_le (1024 - n) bs n in omega arith

module _ (bs : List ℕ) (n : ℕ) where
  pub frame_low : (f : Frame) → frame_read bs n ≡ Some f → n < 1024
  frame_low f e = by (ltb n 1024) refl
    where
      by : (b : Bool) → ltb n 1024 ≡ b → n < 1024
      by true t = ltb-true n 1024 t
      by false t =
          let q : None ≡ Some f = frame_over bs n (ltb-false n 1024 t) ∙ e in absurd cc

  pub left_some : (f : Frame) → frame_read bs n ≡ Some f
      → frames_until (1024 - n) bs n ≡ f ∷ frames_until (1024 - (n + 1)) bs (n + 1)
  unfolding frames_until
  left_some f e =
      let l = frame_low f e in
      let k : 1024 - n ≡ suc (1024 - (n + 1)) = omega arith in
      ap (λ (i : ℕ). frames_until i bs n) k
      ∙ ap (λ (o : Option Frame). in_front o (frames_until (1024 - (n + 1)) bs (n + 1))) e

  pub left_none : frame_read bs n ≡ None → frames_until (1024 - n) bs n ≡ []
  unfolding frames_until
  left_none e = by (1024 - n)
    where
      by : (k : ℕ) → frames_until k bs n ≡ []
      by zero = refl
      by (suc k) = ap (λ (o : Option Frame). in_front o (frames_until k bs (n + 1))) e

pub ruleset left_laws = (left_some, left_none)
