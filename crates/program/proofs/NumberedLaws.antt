-- An event or a module found by its number, frame by frame: a law for each turn of the loop of
-- `frame_numbered` and each return; and members of the lists that are kept of a file's frames.
-- Assumes nothing.
use Prim.Native.Nat.{ℕ, zero, suc, ◌+◌, ◌-◌, ◌<◌, ◌≤◌}
use mathlib.Core.Path.{◌≡◌, refl, sym, ap, ◌∙◌}
use mathlib.Core.List.{List, [], ◌∷◌, map}
use mathlib.Core.Bool.{Bool, true, false}
use native.Mathlib.Omega.{arith}
use lib.Dec.{ltb, leb-suc-suc}
use lib.ListN.{get_or, length, drop, drop_of_length-le}
use borrow.Author.Tests.{lt-ltb, le-ltb}
use Rattle.std.specs.Prelude.{Some, None, is_some, slice_get}
use Rattle.std.proofs.lemmas.List.{drop_more}
use Rattle.basics.specs.If.{keep_if}
use Rattle.language.specs.declared.frame.Frame.{Frame}
use Rattle.text.specs.Frames.{frame_of_word, frames_of}
use Rattle.program.specs.Inner.Numbered.{is_numbered, numbered_of, numbered_in}
use Rattle.program.specs.declared.numbered.Numbered.{Numbered}

-- ---- `frame_numbered`: before line i what is looked for is number `left` from there

module _ (what : Numbered) (ws : List ℕ) (n i left : ℕ) (t : Bool) (l : i < length ws)
    (q : t ≡ is_numbered what (frame_of_word (get_or ws i 0)).kind)
    (s : numbered_in what (frames_of (drop i ws)) left ≡ numbered_in what (frames_of ws) n) where
  abbrev f : Frame
  f = frame_of_word (get_or ws i 0)

  -- those among the frames after this one
  abbrev rest : List Frame
  rest = numbered_of what (frames_of (drop (i + 1) ws))

  from_here : {b : Bool} → t ≡ b → slice_get (keep_if b f rest) left ≡ numbered_in what (frames_of ws) n
  unfolding numbered_of
  from_here k =
      ap (λ (b : Bool). slice_get (keep_if b f rest) left) (sym k ∙ q)
      ∙ ap (λ (vs : List ℕ). numbered_in what (frames_of vs) left) (sym (drop_more ws i 0 l)) ∙ s

  pub finding_other : t ≡ false
      → numbered_in what (frames_of (drop (i + 1) ws)) left ≡ numbered_in what (frames_of ws) n
  finding_other h = from_here h

  pub finding_one : t ≡ true → (left ≡ 0 → ⊥)
      → numbered_in what (frames_of (drop (i + 1) ws)) (left - 1) ≡ numbered_in what (frames_of ws) n
  finding_one h z = beyond left z ∙ from_here h
    where
      beyond : (m : ℕ) → (m ≡ 0 → ⊥) → slice_get rest (m - 1) ≡ slice_get (f ∷ rest) m
      beyond zero z = absurd (z refl)
      beyond (suc m) z = let y : suc m - 1 ≡ m = omega arith in ap (slice_get rest) y

  pub found_here : (g : Frame) → g ≡ frame_of_word (get_or ws i 0) → t ≡ true → left ≡ 0
      → Some g ≡ numbered_in what (frames_of ws) n
  found_here g d h z = ap Some d ∙ ap (slice_get (f ∷ rest)) (sym z) ∙ from_here h

pub found_none : (what : Numbered) (ws : List ℕ) (n i left : ℕ)
    → numbered_in what (frames_of (drop i ws)) left ≡ numbered_in what (frames_of ws) n
    → length ws ≤ i → None ≡ numbered_in what (frames_of ws) n
unfolding numbered_of
found_none what ws n i left s l =
    ap (λ (vs : List ℕ). numbered_in what (frames_of vs) left) (sym (drop_of_length-le ws {i = i} l)) ∙ s

-- ---- lists kept of the frames

pub keep_map : {A B : Type 0} (h : A → B) (b : Bool) (x : A) (xs : List A)
    → keep_if b (h x) (map h xs) ≡ map h (keep_if b x xs)
keep_map h true x xs = refl
keep_map h false x xs = refl

-- there is a member of number i where the list is longer
pub slice_get-is_some : {A : Type 0} (xs : List A) (i : ℕ)
    → is_some (slice_get xs i) ≡ ltb i (length xs)
slice_get-is_some [] i = sym (le-ltb i 0 (omega arith))
slice_get-is_some (x ∷ xs) zero = sym (lt-ltb 0 (suc (length xs)) (omega arith))
slice_get-is_some (x ∷ xs) (suc i) =
    slice_get-is_some xs i ∙ sym (leb-suc-suc (suc i) (length xs))
