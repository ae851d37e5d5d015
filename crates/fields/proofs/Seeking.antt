-- The searches for the lowest frame of which a test is true. In a loop, the search from here on is
-- the search from the start; a chain finds the same. Assumes nothing.
use mathlib.Core.Path.{◌≡◌, refl, sym, ap, ◌∙◌}
use mathlib.Core.Bool.{Bool, true, false}
use mathlib.Core.List.{List, [], ◌∷◌}
use Rattle.std.specs.Prelude.{Option, Some, None}
use Rattle.std.specs.Prelude.{cond, find}
use Rattle.std.specs.List.{range_with_len}
use Prim.Native.Nat.{ℕ, zero, suc, ◌+◌, ◌-◌, ◌≤◌, ◌<◌}
use native.Mathlib.Omega.{arith}
use native.Mathlib.Numerals.{add-one}
use lib.ListN.{length, drop}
use Rattle.basics.specs.Inner.Searches.{lowest}
use Rattle.language.specs.declared.frame.Frame.{Frame}
use Rattle.text.specs.Frames.{frames_of}
use Rattle.text.proofs.FrameWords.{frames_end}
use Rattle.program.specs.Trees.{frame_at}
use Rattle.program.proofs.FrameLaws.{frames_next}

-- the invariant of such a loop; at i = 0 it holds by `refl`
abbrev pub Seeking : (ℕ → Frame → Bool) → List Frame → ℕ → Type 0
Seeking test fs i = lowest test i (drop i fs) ≡ lowest test 0 fs

module _ (test : ℕ → Frame → Bool) (ws : List ℕ) where
  abbrev next : ℕ → Bool → Option ℕ
  next i b = elim b [ true ↦ Some i | false ↦ lowest test (suc i) (drop (suc i) (frames_of ws)) ]

  look : (i : ℕ) → i < length ws
      → lowest test i (drop i (frames_of ws)) ≡ next i (test i (frame_at (frames_of ws) i))
  look i l = ap (lowest test i) (frames_next ws i l) ∙ step
    where
      step : lowest test i (frame_at (frames_of ws) i ∷ drop (suc i) (frames_of ws))
          ≡ next i (test i (frame_at (frames_of ws) i))
      step = unfold lowest in refl

  pub seek_here : (i : ℕ) → Seeking test (frames_of ws) i → i < length ws
      → test i (frame_at (frames_of ws) i) ≡ true → Some i ≡ lowest test 0 (frames_of ws)
  seek_here i g l t = sym (ap (next i) t) ∙ sym (look i l) ∙ g

  pub seek_next : (i : ℕ) → Seeking test (frames_of ws) i → i < length ws
      → test i (frame_at (frames_of ws) i) ≡ false → Seeking test (frames_of ws) (i + 1)
  seek_next i g l t =
      let s : i + 1 ≡ suc i = omega arith in rw s (sym (ap (next i) t) ∙ sym (look i l) ∙ g)

  pub seek_end : (i : ℕ) → Seeking test (frames_of ws) i → length ws ≤ i
      → None ≡ lowest test 0 (frames_of ws)
  seek_end i g l = end ∙ ap (lowest test i) (sym (frames_end ws i l)) ∙ g
    where
      end : None ≡ lowest test i []
      end = unfold lowest in refl

  -- ---- the chain: `find` over the numbers of the frames from i on, with a test that the code makes
  -- of a number
  module _ (code : ℕ → Bool)
      (same : (k : ℕ) → k < length ws → test k (frame_at (frames_of ws) k) ≡ code k) where
    find_from : (n i : ℕ) → length ws - i ≡ n
        → find code (range_with_len i n) ≡ lowest test i (drop i (frames_of ws))
    find_from zero i e = end ∙ ap (lowest test i) (sym (frames_end ws i (omega arith)))
      where
        end : None ≡ lowest test i []
        end = unfold lowest in refl
    find_from (suc n) i e =
        let l : i < length ws = omega arith in
        by (code i) (find_from n (i + 1) (omega arith)) ∙ sym (look i l ∙ ap (next i) (same i l))
      where
        by : (b : Bool)
            → find code (range_with_len (i + 1) n)
            ≡ lowest test (i + 1) (drop (i + 1) (frames_of ws))
            → cond b (Some i) (find code (range_with_len (i + 1) n)) ≡ next i b
        by true r = refl
        by false r = r ∙ ap (λ (k : ℕ). lowest test k (drop k (frames_of ws))) (add-one i)

    pub find_lowest : find code (range_with_len 0 (length ws)) ≡ lowest test 0 (frames_of ws)
    find_lowest = find_from (length ws) 0 (omega arith)
