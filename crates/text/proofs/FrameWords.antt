-- The frames of a file's lines, from the lines' numbers: how many, the one at i, those from i on.
-- Assumes nothing.
use Rattle.std.proofs.Common.{◌≡◌, ℕ, zero, suc, ◌+◌, ◌<◌, ◌≤◌, List, [], ◌∷◌, length, get_or, drop, sym, refl, ap, ◌∙◌, add-one, arith, drop_of_length-le, drop-cons}
use lib.ListN.{length-map}
use Rattle.language.specs.declared.frame.Frame.{Frame}
use Rattle.text.specs.Frames.{frame_of_word, frames_of}

pub frames_length : (ws : List ℕ) → length (frames_of ws) ≡ length ws
frames_length ws = length-map ws frame_of_word

-- whatever stands after the last
pub frame_at_lem : (ws : List ℕ) (i : ℕ) (beyond : Frame) → i < length ws
    → get_or (frames_of ws) i beyond ≡ frame_of_word (get_or ws i 0)
frame_at_lem [] i d h = absurd (omega arith)
frame_at_lem (w ∷ ws) zero d h = refl
frame_at_lem (w ∷ ws) (suc i) d h = frame_at_lem ws i d (omega arith)

pub next_frame : (ws : List ℕ) (i : ℕ) (f : Frame) → i < length ws → f ≡ frame_of_word (get_or ws i 0)
    → drop i (frames_of ws) ≡ f ∷ drop (i + 1) (frames_of ws)
next_frame ws i f l e =
    drop-cons (frames_of ws) i f (rw (frames_length ws) l)
    ∙ ap (λ (g : Frame). g ∷ drop (suc i) (frames_of ws)) (frame_at_lem ws i f l ∙ sym e)
    ∙ ap (λ (k : ℕ). f ∷ drop k (frames_of ws)) (sym (add-one i))

pub frames_end : (ws : List ℕ) (i : ℕ) → length ws ≤ i → drop i (frames_of ws) ≡ []
frames_end ws i l = drop_of_length-le (frames_of ws) {i = i} (rw (frames_length ws) l)
