-- The code's test of one frame for the writer's 6. Assumes nothing.
use mathlib.Core.Path.{◌≡◌, sym, ap₂, ◌∙◌}
use mathlib.Core.Bool.{Bool, ◌&&◌, ◌||◌}
use mathlib.Core.List.{List}
use Prim.Native.Nat.{ℕ, ◌≤◌, ◌<◌}
use native.Mathlib.Omega.{arith}
use lib.Dec.{eqb}
use lib.ListN.{get_or, length}
use Rattle.language.specs.Kinds.{class_of}
use Rattle.language.specs.declared.frame.Frame.{Frame}
use Rattle.text.specs.Frames.{frames_of}
use Rattle.program.specs.Trees.{frame_at}
use Rattle.layout.specs.Order.{has_class}
use Rattle.layout.specs.Inner.Uses.{CountsUses}
use Rattle.layout.proofs.UseCounts.{count_none}
use Rattle.forest.specs.Inner.FrameTests.{has_wrong_child, has_class_fault}

-- the code's test is the definition's
pub class_fault_is : (ws u : List ℕ) (i : ℕ) (f : Frame) (b : Bool) → f ≡ frame_at (frames_of ws) i
    → b ≡ (has_wrong_child (frames_of ws) f || (has_class (class_of f.kind) && eqb (get_or u i 0) 0))
    → CountsUses (frames_of ws) u → i < length ws → length ws ≤ 1024
    → has_class_fault (frames_of ws) i (frame_at (frames_of ws) i) ≡ b
unfolding has_class_fault
class_fault_is ws u i f b e h cs l m =
    sym (h ∙ ap₂ with_frame e (count_none (frames_of ws) u i cs (omega arith)))
  where
    with_frame : Frame → Bool → Bool
    with_frame g x = has_wrong_child (frames_of ws) g || (has_class (class_of g.kind) && x)
