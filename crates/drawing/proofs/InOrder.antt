-- Lines that stand in order, drawn and laid out, are these lines: tree by tree. Assumes nothing.
use mathlib.Core.Path.{◌≡◌, refl, sym, ap, ap₂, subst, ◌∙◌}
use mathlib.Core.List.{List, [], ◌∷◌, ◌++◌}
use Prim.Native.Nat.{ℕ, zero, suc, ◌+◌, ◌^◌, ◌≤◌, ◌<◌}
use native.Mathlib.Omega.{arith}
use lib.ListN.{length, get_or}
use Rattle.basics.specs.Members.{In}
use Rattle.language.specs.Kinds.{uses, Child, child_in, children}
use Rattle.language.specs.declared.frame.Frame.{Frame}
use Rattle.text.specs.Frames.{frame_of_word, frames_of}
use Rattle.text.proofs.FrameWords.{frame_at_lem}
use Rattle.program.specs.Trees.{no_frame, frame_at}
use Rattle.layout.specs.Order.{Tree, Row}
use Rattle.layout.proofs.Trees.{tree_in}
pub use Rattle.drawing.specs.Inner.Heights.{Within, within}
use Rattle.drawing.specs.Drawings.{line_from, head_of, Drawn, Field, node, size}
use Rattle.drawing.specs.Drawings.{size_in, field_with, drawn, root_from, value_from}
use Rattle.drawing.specs.Drawings.{root_line, lined, lined_in}
use Rattle.drawing.proofs.Lines.{frame_word}
use Rattle.drawing.proofs.Fields.{Few, few}

-- ---- n lines from i on, one by one
unfoldable pub part : List ℕ → ℕ → ℕ → List ℕ
part ws i zero = []
part ws i (suc n) = get_or ws i 0 ∷ part ws (suc i) n

pub part_more : (ws : List ℕ) (i n m : ℕ) → part ws i n ++ part ws (i + n) m ≡ part ws i (n + m)
unfolding part
part_more ws i zero m =
    let a : i + 0 ≡ i = omega arith in
    let b : m ≡ 0 + m = omega arith in
    ap₂ (part ws) a b
part_more ws i (suc n) m =
    let e : suc n + m ≡ suc (n + m) = omega arith in
    let f : i + suc n ≡ suc i + n = omega arith in
    ap (λ (k : ℕ). get_or ws i 0 ∷ (part ws (suc i) n ++ part ws k m)) f
    ∙ ap (λ (l : List ℕ). get_or ws i 0 ∷ l) (part_more ws (suc i) n m) ∙ ap (part ws i) (sym e)

part_one : (ws : List ℕ) (i n m : ℕ) → m ≡ i + n
    → part ws i n ++ (get_or ws m 0 ∷ []) ≡ part ws i (suc n)
unfolding part
part_one ws i n m e =
    let a : n + 1 ≡ suc n = omega arith in
    ap (λ (k : ℕ). part ws i n ++ (get_or ws k 0 ∷ [])) e ∙ part_more ws i n 1 ∙ ap (part ws i) a

part_tail : (w : ℕ) (ws : List ℕ) (i n : ℕ) → part (w ∷ ws) (suc i) n ≡ part ws i n
unfolding part
part_tail w ws i zero = refl
part_tail w ws i (suc n) = ap (λ (l : List ℕ). get_or ws i 0 ∷ l) (part_tail w ws (suc i) n)

pub part_whole : (ws : List ℕ) → part ws 0 (length ws) ≡ ws
unfolding part
part_whole [] = refl
part_whole (w ∷ ws) = ap (λ (l : List ℕ). w ∷ l) (part_tail w ws 0 (length ws) ∙ part_whole ws)

-- ---- a row of children, split
pub record Split (fs : List Frame) (lo stop : ℕ) (xs ys : List Child) : Type 0 where
  pub mid : ℕ
  pub first : Row fs lo mid xs
  pub rest : Row fs mid stop ys

pub row_split : {fs : List Frame} {lo stop : ℕ} (xs ys : List Child) → Row fs lo stop (xs ++ ys)
    → Split fs lo stop xs ys
row_split [] ys r = record { mid = _; first = Row.none; rest = r }
row_split (x ∷ xs) ys (Row.more t e r) =
    let s = row_split xs ys r in
    record { mid = s.mid; first = Row.more t e s.first; rest = s.rest }

pub in_left : {c : Child} {xs : List Child} → In c xs → (ys : List Child) → In c (xs ++ ys)
in_left In.first ys = In.first
in_left (In.later m) ys = In.later (in_left m ys)

pub in_right : {c : Child} (xs : List Child) {ys : List Child} → In c ys → In c (xs ++ ys)
in_right [] m = m
in_right (x ∷ xs) m = In.later (in_right xs m)

-- ---- the lines from lo to i are those of the tree t; those from lo to just before `stop` are
-- those of the field x, which holds v
pub record Same (ws : List ℕ) (lo i : ℕ) (t : Drawn) : Type 0 where
  pub from : lo ≤ i
  pub count : lo + size t ≡ suc i
  pub at : root_from lo t ≡ i
  pub lines : lined lo t ≡ part ws lo (size t)

pub record SameIn (ws : List ℕ) (lo stop v : ℕ) (x : Field) : Type 0 where
  pub from : lo ≤ stop
  pub count : lo + size_in x ≡ stop
  pub at : value_from lo x ≡ v
  pub lines : lined_in lo x ≡ part ws lo (size_in x)

module _ (ws : List ℕ) where
  field_same : {lo stop v : ℕ} {cs : List Child} (draw : ℕ → Drawn) → Few cs v
      → Row (frames_of ws) lo stop cs
      → ((c : Child) → In c cs → (from : ℕ) → Tree (frames_of ws) from c.at → Same ws from c.at (draw c.at))
      → SameIn ws lo stop v (field_with draw v cs)
  unfolding size_in value_from lined_in part
  field_same draw Few.no_module Row.none rec =
      record { from = omega arith; count = omega arith; at = refl; lines = refl }
  field_same draw (Few.one {c = c} e) (Row.more {lo = lo} t k Row.none) rec =
      let s = rec c In.first lo t in
      let f = s.from in
      record { from = omega arith; count = s.count; at = s.at ∙ e; lines = s.lines }

  node_lines : (lo m k i h va vb vc : ℕ) (a b c : Field) → SameIn ws lo m va a → SameIn ws m k vb b
      → SameIn ws k i vc c → line_from h va vb vc ≡ get_or ws i 0 → Same ws lo i (node h a b c)
  unfolding lined size root_from
  node_lines lo m k i h va vb vc a b c x y z w =
      let p : lo + size_in a ≡ m = x.count in
      let q : m + size_in b ≡ k = y.count in
      let r : k + size_in c ≡ i = z.count in
      let q' : lo + size_in a + size_in b ≡ k = omega arith in
      let f = x.from in
      let g = y.from in
      let l = z.from in
      let vb' : value_from (lo + size_in a) b ≡ vb = ap (λ (n : ℕ). value_from n b) p ∙ y.at in
      let vc' : value_from (lo + size_in a + size_in b) c ≡ vc = ap (λ (n : ℕ). value_from n c) q' ∙ z.at in
      let va' : value_from lo a ≡ va = x.at in
      let root : root_line lo h a b c ≡ get_or ws i 0 = ap₂ (λ (n m : ℕ). line_from h n m (value_from (lo + size_in a + size_in b) c)) va' vb' ∙ ap (line_from h va vb) vc' ∙ w in
      let B : lined_in (lo + size_in a) b ≡ part ws m (size_in b) = ap (λ (n : ℕ). lined_in n b) p ∙ y.lines in
      let C : lined_in (lo + size_in a + size_in b) c ≡ part ws k (size_in c) = ap (λ (n : ℕ). lined_in n c) q' ∙ z.lines in
      let T : part ws k (size_in c) ++ (get_or ws i 0 ∷ []) ≡ part ws k (suc (size_in c)) = part_one ws k (size_in c) i (sym r) in
      let U : part ws m (size_in b) ++ part ws k (suc (size_in c)) ≡ part ws m (size_in b + suc (size_in c)) = ap (λ (n : ℕ). part ws m (size_in b) ++ part ws n (suc (size_in c))) (sym q) ∙ part_more ws m (size_in b) (suc (size_in c)) in
      let X : part ws lo (size_in a) ++ part ws m (size_in b + suc (size_in c)) ≡ part ws lo (size_in a + (size_in b + suc (size_in c))) = ap (λ (n : ℕ). part ws lo (size_in a) ++ part ws n (size_in b + suc (size_in c))) (sym p) ∙ part_more ws lo (size_in a) (size_in b + suc (size_in c)) in
      let n : size_in a + (size_in b + suc (size_in c)) ≡ suc (size_in a + size_in b + size_in c) = omega arith in
      record {
        from = omega arith;
        count = omega arith;
        at = omega arith;
        lines =
            ap₂ (λ (A R : List ℕ). A ++ R) x.lines
            (ap₂ (λ (A R : List ℕ). A ++ R) B (ap₂ (λ (A : List ℕ) (k : ℕ). A ++ (k ∷ [])) C root ∙ T) ∙ U)
            ∙ X ∙ ap (part ws lo) n;
      }

  module _ (small : (i : ℕ) → get_or ws i 0 < 16 ^ 16) where
    pub in_order : {d i : ℕ} → Within (frames_of ws) d i → (lo : ℕ) → i < length ws
        → Tree (frames_of ws) lo i → Same ws lo i (drawn d ws i)
    unfolding drawn children
    in_order (within {d = d} {i = i} g) lo l (Tree.root r) =
        let fs = frames_of ws in
        let f = frame_of_word (get_or ws i 0) in
        let e : frame_at fs i ≡ f = frame_at_lem ws i no_frame l in
        let A = child_in (uses f.kind).a f.a in
        let B = child_in (uses f.kind).b f.b in
        let C = child_in (uses f.kind).c f.c in
        let row : Row fs lo i ((A ++ B) ++ C) = subst (λ (h : Frame). Row fs lo i (children h)) e r in
        let s = row_split (A ++ B) C row in
        let t = row_split A B s.first in
        let rec : (c : Child) → In c ((A ++ B) ++ C) → (from : ℕ) → Tree fs from c.at
        → Same ws from c.at (drawn d ws c.at) =
        λ c m from u. (let n : In c (children (frame_at fs i)) = subst (λ (h : Frame). In c (children h)) (sym e) m in let q = tree_in (Tree.root r) n in in_order (g c n) from (omega arith) u) in
        node_lines lo t.mid s.mid i (head_of (get_or ws i 0)) f.a f.b f.c _ _ _
        (field_same (λ j. drawn d ws j) (few (uses f.kind).a f.a) t.first (λ c m. rec c (in_left (in_left m B) C)))
        (field_same (λ j. drawn d ws j) (few (uses f.kind).b f.b) t.rest (λ c m. rec c (in_left (in_right A m) C)))
        (field_same (λ j. drawn d ws j) (few (uses f.kind).c f.c) s.rest (λ c m. rec c (in_right (A ++ B) m)))
        (frame_word (get_or ws i 0) (small i))
