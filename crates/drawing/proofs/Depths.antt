-- Where nothing is deeper than 24, the trees of the roots are at most 25 deep. Assumes nothing.
use mathlib.Core.Path.{◌≡◌, refl}
use mathlib.Core.List.{List}
use Prim.Native.Nat.{ℕ, zero, suc, ◌+◌, ◌≤◌, ◌<◌}
use native.Mathlib.Omega.{arith}
use lib.ListN.{length}
use Rattle.basics.specs.Members.{In}
use Rattle.language.specs.Kinds.{Child, children}
use Rattle.language.specs.declared.frame.Frame.{Frame}
use Rattle.program.specs.Trees.{frame_at}
use Rattle.layout.specs.Depths.{Depth}
use Rattle.language.specs.Limits.{most_depth}
use Rattle.layout.proofs.Depths.{body_depth, child_depth}
use Rattle.layout.proofs.Users.{Parent, parent}
use Rattle.drawing.specs.Drawings.{ranks, levels}
use Rattle.drawing.proofs.Roots.{rank_of}
use Rattle.drawing.proofs.Tiles.{root_class}
use Rattle.drawing.proofs.InOrder.{Within, within}

module _ (fs : List Frame) (shallow : (j d : ℕ) → Depth fs j d → d ≤ most_depth) where
  pub deep_within : (n i e : ℕ) → Depth fs i e → e + n ≡ levels → Within fs n i
  deep_within zero i e h q = let l = shallow i e h in absurd (omega arith)
  deep_within (suc n) i e h q =
      within (λ c m. deep_within n c.at (suc e) (child_depth h (record { child = c; among = m; at_it = refl })) (omega arith))

  pub root_within : (i : ℕ) → i < length fs → rank_of (frame_at fs i) < ranks → Within fs levels i
  root_within i l r = within (λ c m. go c m (parent (frame_at fs i) c m))
    where
      go : (c : Child) → In c (children (frame_at fs i)) → Parent (frame_at fs i).kind
          → Within fs 24 c.at
      go c m (Parent.of_module e) =
          deep_within 24 c.at 1 (body_depth l e (record { child = c; among = m; at_it = refl })) (omega arith)
      go c m (Parent.of_class h) = absurd (root_class (frame_at fs i).kind r h)
