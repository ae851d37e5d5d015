-- What a file has of one rank, in its order, stands in its drawing: two files with the same drawing
-- have the same shared cells, and as many modules. Assumes nothing.
use mathlib.Core.Path.{◌≡◌, refl, sym, ap, ap₂, ◌∙◌}
use mathlib.Core.Bool.{Bool, true, false}
use mathlib.Core.List.{List, [], ◌∷◌, ◌++◌, map, append-nil}
use Prim.Native.Nat.{ℕ, zero, suc, ◌+◌, ◌≤◌, ◌<◌}
use native.Mathlib.Omega.{arith}
use native.Mathlib.Decide.{ℕ_discrete}
use lib.Dec.{eqb}
use lib.ListN.{get_or}
use borrow.Author.Tests.{eqb-true, eq-eqb, ne_eqb}
use Rattle.basics.specs.If.{when◌then◌else◌}
use Rattle.basics.proofs.Ifs.{if_yes, if_no}
use Rattle.language.specs.declared.frame.Frame.{Frame}
use Rattle.text.specs.Frames.{frame_of_word, frames_of}
use Rattle.drawing.specs.Drawings.{head_of, Drawn, node_with, drawn, rank, ranks, levels}
use Rattle.drawing.specs.Drawings.{numbered, roots_to, drawing}
use Rattle.drawing.proofs.Lines.{frame_head}
use Rattle.drawing.proofs.Back.{tree_rank}
use Rattle.drawing.proofs.Roots.{rank_of}
use Rattle.drawing.proofs.Writables.{map_append}

-- of trees, and of frames, what `take` says of those of rank r
unfoldable pub pick_trees : {A : Type 0} → ℕ → (Drawn → A) → List Drawn → List A
pick_trees r g [] = []
pick_trees r g (t ∷ ts) = (when eqb (tree_rank t) r then g t ∷ [] else []) ++ pick_trees r g ts

unfoldable pub pick_frames : {A : Type 0} → ℕ → (Frame → A) → List Frame → List A
pick_frames r g [] = []
pick_frames r g (f ∷ fs) = (when eqb (rank_of f) r then g f ∷ [] else []) ++ pick_frames r g fs

module _ {A : Type 0} (r : ℕ) (g : Drawn → A) where
  pick_append : (xs ys : List Drawn)
      → pick_trees r g (xs ++ ys) ≡ pick_trees r g xs ++ pick_trees r g ys
  unfolding pick_trees
  pick_append [] ys = refl
  pick_append (x ∷ xs) ys =
      rw (pick_append xs ys) (joined (when eqb (tree_rank x) r then g x ∷ [] else []) (pick_trees r g xs) (pick_trees r g ys))
    where
      joined : (p q s : List A) → p ++ (q ++ s) ≡ (p ++ q) ++ s
      joined [] q s = refl
      joined (y ∷ p) q s = ap (λ (t : List A). y ∷ t) (joined p q s)

  -- a drawing of the lines ws, from trees and from frames
  module _ (ws : List ℕ) (h : Frame → A) (same : (draw : ℕ → Drawn) (w : ℕ) → rank (frame_of_word w).kind ≡ r → g (node_with draw (head_of w) (frame_of_word w)) ≡ h (frame_of_word w)) where
    abbrev draw : ℕ → Drawn
    draw i = drawn levels ws i

    tree_rank_lem : (i : ℕ) → tree_rank (draw i) ≡ rank_of (frame_of_word (get_or ws i 0))
    unfolding drawn
    tree_rank_lem i = ap rank_of (sym (frame_head (get_or ws i 0)))

    tree_same : (i : ℕ) → rank_of (frame_of_word (get_or ws i 0)) ≡ r
        → g (draw i) ≡ h (frame_of_word (get_or ws i 0))
    unfolding drawn
    tree_same i e = same _ (get_or ws i 0) e

    abbrev From : ℕ → List ℕ → Type 0
    From i vs = (q : ℕ) → get_or vs q 0 ≡ get_or ws (i + q) 0

    next : (i v : ℕ) (vs : List ℕ) → From i (v ∷ vs) → From (suc i) vs
    next i v vs f q =
        let z : i + suc q ≡ suc i + q = omega arith in
        f (suc q) ∙ ap (λ (k : ℕ). get_or ws k 0) z

    here : (i v : ℕ) (vs : List ℕ) → From i (v ∷ vs) → v ≡ get_or ws i 0
    here i v vs f = let z : i + 0 ≡ i = omega arith in f 0 ∙ ap (λ (k : ℕ). get_or ws k 0) z

    of_rank : (i : ℕ) (vs : List ℕ) → From i vs
        → pick_trees r g (map draw (numbered r i (frames_of vs))) ≡ pick_frames r h (frames_of vs)
    unfolding numbered pick_trees pick_frames
    of_rank i [] f = refl
    of_rank i (v ∷ vs) f =
        go (eqb (rank_of (frame_of_word v)) r) refl (of_rank (suc i) vs (next i v vs f))
      where
        go : (b : Bool) → eqb (rank_of (frame_of_word v)) r ≡ b
            → pick_trees r g (map draw (numbered r (suc i) (frames_of vs))) ≡ pick_frames r h (frames_of vs)
            → pick_trees r g (map draw ((when eqb (rank_of (frame_of_word v)) r then i ∷ [] else []) ++ numbered r (suc i) (frames_of vs))) ≡ (when eqb (rank_of (frame_of_word v)) r then h (frame_of_word v) ∷ [] else []) ++ pick_frames r h (frames_of vs)
        go true e rec =
            let p = eqb-true (rank_of (frame_of_word v)) r e in
            let q = ap frame_of_word (here i v vs f) in
            let k : rank_of (frame_of_word (get_or ws i 0)) ≡ r = ap rank_of (sym q) ∙ p in
            let x = eq-eqb (tree_rank (draw i)) r (tree_rank_lem i ∙ k) in
            let y : g (draw i) ≡ h (frame_of_word v) = tree_same i k ∙ ap h (sym q) in
            rw (if_yes (i ∷ []) [] e, if_yes (h (frame_of_word v) ∷ []) [] e, if_yes (g (draw i) ∷ []) [] x) (ap₂ (λ (x : A) (xs : List A). x ∷ xs) y rec)
        go false e rec =
            rw (if_no (i ∷ []) [] e, if_no (h (frame_of_word v) ∷ []) [] e) rec

    of_other : (m i : ℕ) (vs : List ℕ) → (m ≡ r → ⊥) → From i vs
        → pick_trees r g (map draw (numbered m i (frames_of vs))) ≡ []
    unfolding numbered pick_trees
    of_other m i [] n f = refl
    of_other m i (v ∷ vs) n f =
        go (eqb (rank_of (frame_of_word v)) m) refl (of_other m (suc i) vs n (next i v vs f))
      where
        go : (b : Bool) → eqb (rank_of (frame_of_word v)) m ≡ b
            → pick_trees r g (map draw (numbered m (suc i) (frames_of vs))) ≡ []
            → pick_trees r g (map draw ((when eqb (rank_of (frame_of_word v)) m then i ∷ [] else []) ++ numbered m (suc i) (frames_of vs))) ≡ []
        go true e rec =
            let p = eqb-true (rank_of (frame_of_word v)) m e in
            let q = ap (λ (w : ℕ). rank_of (frame_of_word w)) (here i v vs f) in
            let t = tree_rank_lem i in
            let x = ne_eqb (tree_rank (draw i)) r (λ z. n (sym p ∙ q ∙ sym t ∙ z)) in
            rw (if_yes (i ∷ []) [] e, if_no (g (draw i) ∷ []) [] x) rec
        go false e rec = rw (if_no (i ∷ []) [] e) rec

    start : From 0 ws
    start q = let z : q ≡ 0 + q = omega arith in ap (λ (k : ℕ). get_or ws k 0) z

    -- the ranks below m: nothing up to r, all of rank r after it
    low_none : (m : ℕ) → m ≤ r → pick_trees r g (map draw (roots_to m (frames_of ws))) ≡ []
    unfolding roots_to pick_trees
    low_none zero l = refl
    low_none (suc m) l =
        ap (pick_trees r g) (map_append draw (roots_to m (frames_of ws)) (numbered m 0 (frames_of ws)))
        ∙ pick_append (map draw (roots_to m (frames_of ws))) (map draw (numbered m 0 (frames_of ws)))
        ∙ ap₂ (λ (x y : List A). x ++ y) (low_none m (omega arith)) (of_other m 0 ws (λ e. omega arith) start)

    above_all : (m : ℕ) → r < m
        → pick_trees r g (map draw (roots_to m (frames_of ws))) ≡ pick_frames r h (frames_of ws)
    unfolding roots_to pick_trees
    above_all zero l = absurd (omega arith)
    above_all (suc m) l =
        ap (pick_trees r g) (map_append draw (roots_to m (frames_of ws)) (numbered m 0 (frames_of ws)))
        ∙ pick_append (map draw (roots_to m (frames_of ws))) (map draw (numbered m 0 (frames_of ws)))
        ∙ go (ℕ_discrete m r) (λ k. above_all m k)
      where
        go : Dec (m ≡ r)
            → (r < m → pick_trees r g (map draw (roots_to m (frames_of ws))) ≡ pick_frames r h (frames_of ws))
            → pick_trees r g (map draw (roots_to m (frames_of ws))) ++ pick_trees r g (map draw (numbered m 0 (frames_of ws))) ≡ pick_frames r h (frames_of ws)
        go (yes e) rec =
            ap₂ (λ (x y : List A). x ++ y) (low_none m (omega arith)) (ap (λ (k : ℕ). pick_trees r g (map draw (numbered k 0 (frames_of ws)))) e ∙ of_rank 0 ws start)
        go (no d) rec =
            ap₂ (λ (x y : List A). x ++ y) (rec (omega (arith, d))) (of_other m 0 ws d start)
            ∙ append-nil (pick_frames r h (frames_of ws))

    pub picked : r < ranks → pick_trees r g (drawing ws) ≡ pick_frames r h (frames_of ws)
    unfolding drawing
    picked l = above_all ranks l
