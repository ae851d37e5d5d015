-- A file that is in order, drawn and laid out, is the file. Assumes nothing.
use mathlib.Core.Path.{◌≡◌, refl, sym, ap, ap₂, ◌∙◌}
use mathlib.Core.List.{List, ◌++◌, map}
use Prim.Native.Nat.{ℕ, ◌+◌, ◌^◌, ◌≤◌, ◌<◌}
use native.Mathlib.Omega.{arith}
use lib.ListN.{length, get_or}
use Rattle.text.specs.Frames.{frames_of}
use Rattle.text.proofs.FrameWords.{frames_length}
use Rattle.layout.specs.Faults.{NoFault}
use Rattle.layout.proofs.Scopes.{depth_most}
use Rattle.drawing.specs.Drawings.{Drawn, size, drawn, lined_all, ranks, levels}
use Rattle.drawing.specs.Drawings.{drawing, laid_out}
use Rattle.drawing.proofs.InOrder.{part, part_more, part_whole, in_order}
use Rattle.drawing.proofs.Roots.{as_they_stand, sorted}
use Rattle.drawing.proofs.Tiles.{Tiles, tiles}
use Rattle.drawing.proofs.Depths.{root_within}

-- the lines from lo to just before `stop` are those of the trees
record SameAll (ws : List ℕ) (lo stop : ℕ) (ts : List Drawn) : Type 0 where
  count : ℕ
  upto : lo + count ≡ stop
  lines : lined_all lo ts ≡ part ws lo count

module _ (ws : List ℕ) (small : (i : ℕ) → get_or ws i 0 < 16 ^ 16) (fine : NoFault (frames_of ws)) where
  tree_lines : {lo stop : ℕ} {is : List ℕ} → Tiles (frames_of ws) lo is stop → stop ≤ length ws
      → SameAll ws lo stop (map (λ i. drawn levels ws i) is)
  unfolding lined_all part
  tree_lines Tiles.done l = record { count = 0; upto = omega arith; lines = refl }
  tree_lines (Tiles.next {lo = lo} {i = i} {is = is} t k r more) l =
      let n : length (frames_of ws) ≡ length ws = frames_length ws in
      let s = in_order ws small (root_within (frames_of ws) (λ j d h. depth_most (frames_of ws) fine h) i (omega arith) r) lo (omega arith) t in
      let q = s.count in
      let u = tree_lines more l in
      let v = u.upto in
      let w = size (drawn levels ws i) in
      record {
        count = size (drawn levels ws i) + u.count;
        upto = omega arith;
        lines =
            ap₂ (λ (A R : List ℕ). A ++ R) s.lines (ap (λ (k : ℕ). lined_all k (map (λ i. drawn levels ws i) is)) q ∙ u.lines ∙ ap (λ (k : ℕ). part ws k u.count) (sym q))
            ∙ part_more ws lo (size (drawn levels ws i)) u.count;
      }

  pub in_order_same : 0 < length ws → laid_out (drawing ws) ≡ ws
  unfolding laid_out drawing
  in_order_same some =
      let n : length (frames_of ws) ≡ length ws = frames_length ws in
      let t = tiles (frames_of ws) fine (omega arith) in
      let s = tree_lines t (omega arith) in
      let u = s.upto in
      let k : s.count ≡ length ws = omega arith in
      ap (λ (is : List ℕ). lined_all 0 (map (λ i. drawn levels ws i) is)) (as_they_stand ranks ranks (frames_of ws) (omega arith) (sorted (frames_of ws) fine))
      ∙ s.lines ∙ ap (part ws 0) k ∙ part_whole ws
