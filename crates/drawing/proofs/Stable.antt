-- A tree that is at most d deep is the same drawn to d levels or to more. Assumes nothing.
use mathlib.Core.Path.{◌≡◌, refl, sym, ap, subst}
use mathlib.Core.List.{List, [], ◌∷◌, ◌++◌}
use Prim.Native.Nat.{ℕ, ◌<◌}
use lib.ListN.{length, get_or}
use Rattle.basics.specs.Members.{In}
use Rattle.language.specs.Kinds.{uses, Child, child_in, children}
use Rattle.language.specs.declared.frame.Frame.{Frame}
use Rattle.text.specs.Frames.{frame_of_word, frames_of}
use Rattle.text.proofs.FrameWords.{frame_at_lem}
use Rattle.program.specs.Trees.{no_frame, frame_at}
use Rattle.drawing.specs.Drawings.{head_of, Drawn, child, field_with}
use Rattle.drawing.specs.Drawings.{node_with, drawn}
use Rattle.drawing.proofs.Back.{node_same}
use Rattle.drawing.proofs.InOrder.{Within, within, in_left, in_right}

pub field_draws : (x y : ℕ → Drawn) (v : ℕ) (cs : List Child)
    → ((c : Child) → In c cs → x c.at ≡ y c.at) → field_with x v cs ≡ field_with y v cs
field_draws x y v [] h = refl
field_draws x y v (c ∷ cs) h = ap child (h c In.first)

pub node_draws : (x y : ℕ → Drawn) (h : ℕ) (f : Frame)
    → ((c : Child) → In c (children f) → x c.at ≡ y c.at) → node_with x h f ≡ node_with y h f
unfolding children
node_draws x y h f same =
    let A = child_in (uses f.kind).a f.a in
    let B = child_in (uses f.kind).b f.b in
    let C = child_in (uses f.kind).c f.c in
    node_same h
    (field_draws x y f.a A (λ c m. same c (in_left (in_left m B) C)))
    (field_draws x y f.b B (λ c m. same c (in_left (in_right A m) C)))
    (field_draws x y f.c C (λ c m. same c (in_right (A ++ B) m)))

module _ (ws : List ℕ) (inside : (i : ℕ) (c : Child) → In c (children (frame_at (frames_of ws) i)) → c.at < length ws) where
  pub as_frame : (i : ℕ) (c : Child) → i < length ws → In c (children (frame_of_word (get_or ws i 0)))
      → In c (children (frame_at (frames_of ws) i))
  as_frame i c l m = subst (λ (f : Frame). In c (children f)) (sym (frame_at_lem ws i no_frame l)) m

  pub drawn_same : {d e i : ℕ} → Within (frames_of ws) d i → Within (frames_of ws) e i → i < length ws
      → drawn d ws i ≡ drawn e ws i
  unfolding drawn
  drawn_same (within {d = d} {i = i} g) (within {d = e} h) l =
      node_draws (λ j. drawn d ws j) (λ j. drawn e ws j) (head_of (get_or ws i 0)) (frame_of_word (get_or ws i 0)) (λ c m. (let n = as_frame i c l m in drawn_same (g c n) (h c n) (inside i c n)))
