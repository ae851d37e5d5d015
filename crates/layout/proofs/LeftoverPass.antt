-- The code's pass for a leftover frame, over an array that says how often each frame is used.
-- Assumes nothing.
use Rattle.std.specs.Prelude.{find}
use Rattle.std.specs.List.{range_with_len}
use mathlib.Core.Path.{◌≡◌, sym, ap, ◌∙◌}
use mathlib.Core.Bool.{Bool, ◌&&◌}
use mathlib.Core.List.{List}
use Prim.Native.Nat.{ℕ, ◌≤◌, ◌<◌}
use native.Mathlib.Omega.{arith}
use lib.Dec.{eqb}
use lib.ListN.{get_or, length}
use Rattle.language.specs.Kinds.{class_of}
use Rattle.language.specs.declared.frame.Frame.{Frame}
use Rattle.text.specs.Frames.{frames_of}
use Rattle.program.specs.Trees.{frame_at}
use Rattle.fields.proofs.Seeking.{find_lowest}
use Rattle.layout.specs.Order.{has_class}
use Rattle.layout.specs.Inner.Scans.{first_leftover}
use Rattle.layout.specs.Inner.Uses.{CountsUses}
use Rattle.layout.proofs.Order.{leftover_test, leftover_lowest}
use Rattle.layout.proofs.UseCounts.{count_none}

-- the code's test of frame i, which the array u says how often is used
abbrev pub is_left : List Frame → List ℕ → ℕ → Bool
is_left fs u i = has_class (class_of (frame_at fs i).kind) && eqb (get_or u i 0) 0

module _ (ws u : List ℕ) (cs : CountsUses (frames_of ws) u) (m : length ws ≤ 1024) where
  -- it is the definition's
  test_is : (i : ℕ) → i < length ws
      → leftover_test (frames_of ws) i (frame_at (frames_of ws) i) ≡ is_left (frames_of ws) u i
  test_is i l =
      sym (ap (λ (x : Bool). has_class (class_of (frame_at (frames_of ws) i).kind) && x)
      (count_none (frames_of ws) u i cs (omega arith)))

  pub leftover_found : find (is_left (frames_of ws) u) (range_with_len 0 (length ws))
      ≡ first_leftover (frames_of ws) 0 (frames_of ws)
  leftover_found =
      find_lowest (leftover_test (frames_of ws)) ws (is_left (frames_of ws) u) test_is
      ∙ sym (leftover_lowest (frames_of ws) (frames_of ws) 0 (λ t e. e))
