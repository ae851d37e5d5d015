-- The frame of an index, as `frame_at` reads it; and in a text that reads as frames these are the
-- text's frames. Assumes nothing.
use Rattle.std.specs.Prelude.{Option, Some, None}
use Rattle.std.proofs.Common.{◌≡◌, ℕ, zero, suc, ◌+◌, ◌*◌, ◌/◌, ◌<◌, ◌≤◌, List, length, get_or, drop, sym, refl, ap, ◌∙◌, arith, length-drop, le-ltb, lt-ltb}
use mathlib.Core.Option.{none}
use lib.ListN.{get_or-map}
use Rattle.basics.proofs.Ifs.{if_yes, yes, no}
use Rattle.language.specs.declared.frame.Frame.{Frame}
use Rattle.text.specs.Frames.{line_word, frame_of_word, words_of, text_frames}
use Rattle.text.specs.Inner.Reading.{first_wrong}
use Rattle.text.specs.Inner.Lines.{line_read, frame_of_line, frame_read}
use Rattle.text.proofs.LineLaws.{line_short}
use Rattle.text.proofs.ReadLaws.{length_frames, LineAt, line_at, Scanning, scanning_start}
use Rattle.text.proofs.ReadLaws.{here_wrong, here_word, scanning_more, line_after}

-- ---- the frame of an index, return by return
module _ (bs : List ℕ) (i : ℕ) where
  pub frame_over : 1024 ≤ i → None ≡ frame_read bs i
  unfolding frame_read
  frame_over h = no _ (le-ltb _ _ h) refl

  pub frame_past : i < 1024 → length bs < i * 17 → None ≡ frame_read bs i
  unfolding frame_read
  frame_past l h =
      let m : length (drop (i * 17) bs) < 17 = rw length-drop (omega arith) in
      yes _ (lt-ltb _ _ l) (ap frame_of_line (line_short (drop (i * 17) bs) m))

  pub frame_there : (l : Option ℕ) (r : Option Frame) → i < 1024 → LineAt bs (i * 17) l
      → r ≡ frame_of_line l → r ≡ frame_read bs i
  unfolding frame_read
  frame_there l r h e f = yes _ (lt-ltb _ _ h) (f ∙ ap frame_of_line (line_at bs (i * 17) l e))

pub ruleset frame_laws = (frame_over, frame_past, frame_there)

-- ---- in a text that is such lines, the frames that are read one by one are the frames of the text
word_at : (n i : ℕ) (cs : List ℕ) → i < n → get_or (words_of n cs) i 0 ≡ line_word (drop (i * 17) cs)
unfolding words_of
word_at zero i cs h = absurd (omega arith)
word_at (suc n) zero cs h = refl
word_at (suc n) (suc i) cs h =
    word_at n i (drop 17 cs) (omega arith) ∙ ap line_word (line_after i cs)

module _ (bs : List ℕ) (good : first_wrong 0 bs ≡ none) where
  -- the next line is right, and its number is read
  line_good : (i at : ℕ) → Scanning bs i at → at < length bs
      → (line_read (drop at bs) ≡ Some (line_word (drop at bs))) × Scanning bs (suc i) (at + 17)
  line_good i at s h = go (line_read (drop at bs)) refl
    where
      go : (l : Option ℕ) → line_read (drop at bs) ≡ l
          → (line_read (drop at bs) ≡ Some (line_word (drop at bs))) × Scanning bs (suc i) (at + 17)
      go None e =
          let r = (here_wrong bs i at s h (sym e)).2 in
          let z : ◌≡◌ {A = ℕ} 0 1 = cc in
          absurd (omega arith)
      go (Some w) e =
          (e ∙ ap Some (here_word bs i at s h w (sym e)), scanning_more bs i at s h w (sym e))

  scanned : (i : ℕ) → i ≤ length bs / 17 → Scanning bs i (i * 17)
  scanned zero h = scanning_start bs
  scanned (suc i) h =
      let r = (line_good i (i * 17) (scanned i (omega arith)) (omega arith)).1 in
      record { lines = refl; fits = omega arith; rest = ap (λ (n : ℕ). first_wrong n (drop n bs)) (omega arith) ∙ r.rest }

  pub frames_read : (i : ℕ) → i < length (text_frames bs) → length bs ≤ 17408
      → frame_read bs i ≡ Some (get_or (text_frames bs) i (frame_of_word 0))
  unfolding frame_read text_frames
  frames_read i h m =
      let k : i < length bs / 17 = omega (arith, length_frames bs) in
      let r = (line_good i (i * 17) (scanned i (omega arith)) (omega arith)).0 in
      if_yes _ _ (lt-ltb i 1024 (omega arith)) ∙ ap frame_of_line r
      ∙ ap (λ (w : ℕ). Some (frame_of_word w)) (sym (word_at (length bs / 17) i bs k))
      ∙ ap Some (sym (get_or-map frame_of_word (words_of (length bs / 17) bs) i 0))
