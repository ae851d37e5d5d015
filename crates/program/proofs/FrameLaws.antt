-- How the code reads frames and their children. Assumes nothing.
use mathlib.Core.Path.{◌≡◌, refl, sym, ap, ◌∙◌}
use mathlib.Core.List.{List, [], ◌∷◌, ◌++◌}
use Prim.Native.Nat.{ℕ, zero, suc, ◌+◌, ◌<◌}
use native.Mathlib.Omega.{arith}
use lib.ListN.{length, take, drop}
use lib.Seq.{take-suc, drop-cons}
use Rattle.language.specs.Kinds.{uses, Child, child_in, children}
use Rattle.language.specs.declared.kind.Use.{Use}
use Rattle.language.specs.declared.frame.Frame.{Frame}
use Rattle.text.specs.Frames.{frames_of}
use Rattle.text.proofs.FrameWords.{frames_length}
use Rattle.program.specs.Trees.{no_frame, frame_at}
use Rattle.program.specs.declared.frames.Children.{Children}
use Rattle.program.specs.Inner.Children.{children_in, list_of, children_of}
use Rattle.program.specs.Inner.Children.{child_numbers_of}

-- ---- frames
-- the frames from i on, and up to i
pub frames_next : (ws : List ℕ) (i : ℕ) → i < length ws
    → drop i (frames_of ws) ≡ frame_at (frames_of ws) i ∷ drop (suc i) (frames_of ws)
frames_next ws i l = drop-cons (frames_of ws) i no_frame (let z = frames_length ws in omega arith)

pub frames_more : (ws : List ℕ) (i : ℕ) (f : Frame) → f ≡ frame_at (frames_of ws) i → i < length ws
    → take i (frames_of ws) ++ (f ∷ []) ≡ take (i + 1) (frames_of ws)
frames_more ws i f e l =
    let s : i + 1 ≡ suc i = omega arith in
    ap (λ (g : Frame). take i (frames_of ws) ++ (g ∷ [])) e ∙ sym (take-suc (frames_of ws) i no_frame (let z = frames_length ws in omega arith)) ∙ ap (λ (n : ℕ). take n (frames_of ws)) (sym s)

-- ---- the children of a frame, as the code gives them

-- a field names at most one child, so a frame has at most three
data Few : List Child → Type 0 where
  no_child : Few []
  one_child : {c : Child} → Few (c ∷ [])

few : (u : Use) (v : ℕ) → Few (child_in u v)
few Use.Statement v = Few.one_child
few Use.Expression v = Few.one_child
few Use.Argument zero = Few.no_child
few Use.Argument (suc v) = Few.one_child
few Use.Further zero = Few.no_child
few Use.Further (suc v) = Few.one_child
few Use.Unused v = Few.no_child
few Use.Free v = Few.no_child
few Use.Truth v = Few.no_child
few Use.Place v = Few.no_child
few Use.Scheduler v = Few.no_child
few Use.Lower v = Few.no_child
few Use.ContentType v = Few.no_child
few Use.FirstContent v = Few.no_child
few Use.Parameters v = Few.no_child
few Use.FirstType v = Few.no_child
few Use.SecondType v = Few.no_child

listed : {xs ys zs : List Child} → Few xs → Few ys → Few zs
    → list_of (children_in (xs ++ ys ++ zs)) ≡ xs ++ ys ++ zs
listed Few.no_child Few.no_child Few.no_child = refl
listed Few.no_child Few.no_child Few.one_child = refl
listed Few.no_child Few.one_child Few.no_child = refl
listed Few.no_child Few.one_child Few.one_child = refl
listed Few.one_child Few.no_child Few.no_child = refl
listed Few.one_child Few.no_child Few.one_child = refl
listed Few.one_child Few.one_child Few.no_child = refl
listed Few.one_child Few.one_child Few.one_child = refl

-- what the code gives is the list of children
pub children_are : (f : Frame) (x v : Children) → x ≡ children_of f → x ≡ v → list_of v ≡ children f
unfolding children
children_are f x v h e =
    ap list_of (sym e ∙ h)
    ∙ listed (few (uses f.kind).a f.a) (few (uses f.kind).b f.b)
    (few (uses f.kind).c f.c)

-- each arm of the match on them that gives their numbers
pub numbers_are : (f : Frame) (x v : Children) (r : List ℕ) → x ≡ children_of f → x ≡ v
    → r ≡ child_numbers_of (list_of v) → r ≡ child_numbers_of (children f)
numbers_are f x v r h e q = q ∙ ap child_numbers_of (children_are f x v h e)
