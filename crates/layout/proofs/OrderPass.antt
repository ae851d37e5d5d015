-- The code's other passes of refusal 6: misplaced declarations, `main`, and the lowest frame of all
-- four passes. Assumes nothing.
use mathlib.Core.Path.{◌≡◌, refl, sym, ap, ap₂, ◌∙◌}
use mathlib.Core.Bool.{Bool, true, false}
use mathlib.Core.List.{List, [], ◌∷◌, ◌++◌}
use Rattle.std.specs.Prelude.{Option, Some, None}
use Prim.Native.Nat.{ℕ, ◌+◌, ◌-◌, ◌≤◌, ◌<◌, max}
use native.Mathlib.Omega.{arith}
use lib.ListN.{length, take}
use Rattle.basics.specs.Inner.Searches.{lowest, earlier}
use Rattle.basics.proofs.Ifs.{yes, no}
use Rattle.language.specs.Kinds.{file_rank}
use Rattle.language.specs.declared.frame.Frame.{Frame}
use Rattle.text.specs.Frames.{frames_of}
use Rattle.text.proofs.FrameWords.{frames_length}
use Rattle.program.specs.Trees.{frame_at}
use Rattle.program.proofs.FrameLaws.{frames_more}
use Rattle.fields.proofs.Seeking.{Seeking, seek_here, seek_next, seek_end}
use Rattle.layout.specs.Order.{is_main}
use Rattle.layout.specs.Inner.Scans.{first_disorder, highest_rank, is_late, is_misplaced}
use Rattle.layout.specs.Inner.Scans.{first_leftover, no_main, order_fault}

-- ---- misplaced declarations: `top` is the highest rank before i
-- `is_misplaced`, as the contract writes it
abbrev misplaced_test : List Frame → ℕ → Frame → Bool
misplaced_test fs i f = is_misplaced fs i f

abbrev pub SeekingMisplaced : List Frame → ℕ → Type 0
SeekingMisplaced fs i = Seeking (misplaced_test fs) fs i

abbrev pub Highest : List Frame → ℕ → ℕ → Type 0
Highest fs top i = top ≡ highest_rank (take i fs)

pub highest_start : (fs : List Frame) → Highest fs 0 0
unfolding highest_rank
highest_start fs = refl

rank_append : (gs : List Frame) (f : Frame)
    → highest_rank (gs ++ (f ∷ [])) ≡ max (highest_rank gs) (file_rank f.kind)
unfolding highest_rank
rank_append [] f = omega arith
rank_append (g ∷ gs) f = let h = rank_append gs f in omega arith

pub highest_next : (ws : List ℕ) (i top : ℕ) (f : Frame) (x y : ℕ)
    → f ≡ frame_at (frames_of ws) i → x ≡ file_rank f.kind → y ≡ max top x
    → Highest (frames_of ws) top i → i < length ws → Highest (frames_of ws) y (i + 1)
highest_next ws i top f x y e h j g l =
    j ∙ ap₂ max g h ∙ sym (rank_append (take i (frames_of ws)) f)
    ∙ ap highest_rank (frames_more ws i f e l)

module _ (ws : List ℕ) (i top : ℕ) (f : Frame) (b : Bool) (e : f ≡ frame_at (frames_of ws) i) (q : b ≡ is_late f.kind top) where
  misplaced_is : Highest (frames_of ws) top i
      → is_misplaced (frames_of ws) i (frame_at (frames_of ws) i) ≡ b
  unfolding is_misplaced
  misplaced_is o = sym (q ∙ ap₂ (λ (g : Frame) (n : ℕ). is_late g.kind n) e o)

  pub misplaced_here : b ≡ true → Highest (frames_of ws) top i → SeekingMisplaced (frames_of ws) i
      → i < length ws
      → Some i
      ≡ lowest (λ (j : ℕ) (g : Frame). is_misplaced (frames_of ws) j g) 0 (frames_of ws)
  misplaced_here t o g l = seek_here (misplaced_test (frames_of ws)) ws i g l (misplaced_is o ∙ t)

  pub misplaced_next : b ≡ false → Highest (frames_of ws) top i → SeekingMisplaced (frames_of ws) i
      → i < length ws → SeekingMisplaced (frames_of ws) (i + 1)
  misplaced_next t o g l = seek_next (misplaced_test (frames_of ws)) ws i g l (misplaced_is o ∙ t)

pub misplaced_end : (ws : List ℕ) (i : ℕ) → SeekingMisplaced (frames_of ws) i → length ws ≤ i
    → None ≡ lowest (λ (j : ℕ) (g : Frame). is_misplaced (frames_of ws) j g) 0 (frames_of ws)
misplaced_end ws i g l = seek_end (misplaced_test (frames_of ws)) ws i g l

-- ---- main
module _ (ws : List ℕ) (f : Frame) (b : Bool) (e : f ≡ frame_at (frames_of ws) (length ws - 1)) (h : b ≡ is_main f) where
  main_is : is_main (frame_at (frames_of ws) (length (frames_of ws) - 1)) ≡ b
  main_is =
      ap (λ (n : ℕ). is_main (frame_at (frames_of ws) (n - 1))) (frames_length ws)
      ∙ sym (h ∙ ap is_main e)

  pub main_there : b ≡ true → None ≡ no_main (frames_of ws)
  unfolding no_main
  main_there t = yes _ (main_is ∙ t) refl

  pub main_missing : b ≡ false → Some (length ws - 1) ≡ no_main (frames_of ws)
  unfolding no_main
  main_missing t =
      no None (main_is ∙ t) (ap (λ (n : ℕ). Some (n - 1)) (sym (frames_length ws)))

pub ruleset no_main_laws = (main_there, main_missing)

-- ---- the lowest of the four
module _ (fs : List Frame) (d b l m x y r : Option ℕ) where
  pub order_is : d ≡ first_disorder [] 0 fs
      → b ≡ lowest (λ (i : ℕ) (f : Frame). is_misplaced fs i f) 0 fs
      → l ≡ first_leftover fs 0 fs → m ≡ no_main fs → x ≡ earlier l m → y ≡ earlier b x
      → r ≡ earlier d y → r ≡ order_fault fs
  unfolding order_fault
  order_is hd hb hl hm hx hy hr =
      hr ∙ ap₂ earlier hd (hy ∙ ap₂ earlier hb (hx ∙ ap₂ earlier hl hm))
