-- 'Read back, the lines give the same tree': the lines laid out from a writable file are drawn as
-- the file is. Assumes nothing.
use mathlib.Core.Path.{◌≡◌, refl, sym, ap, subst, ◌∙◌}
use mathlib.Core.Logic.{inr}
use mathlib.Core.Bool.{Bool, true, false, true≢false}
use mathlib.Core.List.{List, [], ◌∷◌, ◌++◌, map}
use Prim.Native.Nat.{ℕ, zero, suc, ◌+◌, ◌/◌, ◌^◌, ◌≤◌, ◌<◌}
use native.Mathlib.Omega.{arith}
use lib.Dec.{eqb}
use lib.ListN.{length, get_or}
use borrow.Author.Tests.{eq-eqb, eqb-true}
use Rattle.basics.specs.If.{when◌then◌else◌}
use Rattle.basics.specs.Members.{In, All}
use Rattle.basics.proofs.Ifs.{if_yes, if_no}
use Rattle.language.specs.declared.refusal.Rule.TheVariants.{WrongHeader}
use Rattle.language.specs.Kinds.{declaration_rank, is_header, kind_of, class_of, uses, Child}
use Rattle.language.specs.Kinds.{file_rank, child_in, children}
use Rattle.language.specs.declared.kind.Kind.{Kind}
use Rattle.language.specs.declared.kind.DeclarationKind.{DeclarationKind}
use Rattle.language.specs.declared.kind.Kind.TheVariants.{Header, Declared, Module, Statement}
use Rattle.language.specs.declared.kind.Kind.TheVariants.{Expression, Unknown}
use Rattle.language.specs.declared.kind.Use.{Use}
use Rattle.language.specs.Limits.{most_depth}
use Rattle.language.specs.declared.frame.Frame.{Frame}
use Rattle.text.specs.Frames.{frame_of_word, frames_of}
use Rattle.text.proofs.FrameWords.{frames_length, frame_at_lem}
use Rattle.program.specs.Trees.{no_frame, frame_at}
use Rattle.fields.specs.Fields.{header_fine}
use Rattle.fields.proofs.FieldLaws.{fine_header}
use Rattle.layout.specs.Faults.{Fault}
use Rattle.program.proofs.NodeLaws.{children_as_lem}
use Rattle.drawing.specs.Drawings.{head_of, Drawn, size, field_with}
use Rattle.drawing.specs.Drawings.{node_with, drawn, lined_all, rank, ranks, levels, numbered}
use Rattle.drawing.specs.Drawings.{roots_to, drawing, laid_out, module_rank}
use Rattle.drawing.proofs.Heights.{height, height_in}
use Rattle.drawing.specs.TreeFaults.{ShapeFault}
use Rattle.drawing.specs.Writings.{Writable}
use Rattle.program.specs.Inner.Children.{same_class}
use Rattle.drawing.proofs.FaultTests.{class_same, class_refl}
use Rattle.drawing.proofs.Lines.{frame_head, frame_fits}
use Rattle.drawing.proofs.Fields.{Held, held}
use Rattle.drawing.proofs.Back.{tree_kind, tree_rank, Fits, FitsIn}
use Rattle.drawing.proofs.InOrder.{Within, within, in_left, in_right}
use Rattle.drawing.proofs.Roots.{rank_of, declared_rank, file_rank_lem}
use Rattle.drawing.proofs.Stable.{as_frame}
use Rattle.drawing.proofs.Sums.{over}
use Rattle.drawing.proofs.Counted.{lines_inside, roots_within, nothing_lost}
use Rattle.drawing.proofs.Counted.{node_size}
use Rattle.drawing.proofs.Shapes.{Ranked, sizes, all_lined, all_small, drawing_back}
use Rattle.drawing.proofs.Output.{Spot, whole_spots}
use Rattle.drawing.proofs.ByRank.{Begun, before}

-- ---- what a drawn tree has
field_fits : (draw : ℕ → Drawn) (u : Use) (v : ℕ) → v < 16 ^ 4
    → ((c : Child) → In c (child_in u v) → (class_of (tree_kind (draw c.at)) ≡ c.class) × Fits (draw c.at))
    → FitsIn u (field_with draw v (child_in u v))
field_fits draw u v l h = go (held u v)
  where
    go : Held u v → FitsIn u (field_with draw v (child_in u v))
    go (Held.keeps e) =
        subst (λ (cs : List Child). FitsIn u (field_with draw v cs)) (sym e) (FitsIn.keeps l e)
    go (Held.names n e) =
        let p = h (record { class = n.class; at = v }) (subst (λ (cs : List Child). In (record { class = n.class; at = v }) cs) (sym e) In.first) in
        subst (λ (cs : List Child). FitsIn u (field_with draw v cs)) (sym e) (FitsIn.names n p.0 p.1)

kind_head : (w : ℕ) → (frame_of_word w).kind ≡ kind_of (head_of w / 16 ^ 2)
kind_head w = ap (λ (f : Frame). f.kind) (frame_head w)

node_fits : (draw : ℕ → Drawn) (w : ℕ)
    → ((c : Child) → In c (children (frame_of_word w)) → (class_of (tree_kind (draw c.at)) ≡ c.class) × Fits (draw c.at))
    → Fits (node_with draw (head_of w) (frame_of_word w))
unfolding children
node_fits draw w h =
    let f = frame_of_word w in
    let A = child_in (uses f.kind).a f.a in
    let B = child_in (uses f.kind).b f.b in
    let C = child_in (uses f.kind).c f.c in
    let k = kind_head w in
    let z = frame_fits w in
    let xa = field_fits draw (uses f.kind).a f.a z.0 (λ c m. h c (in_left (in_left m B) C)) in
    let xb = field_fits draw (uses f.kind).b f.b z.1 (λ c m. h c (in_left (in_right A m) C)) in
    let xc = field_fits draw (uses f.kind).c f.c z.2 (λ c m. h c (in_right (A ++ B) m)) in
    Fits.fits {h = head_of w} (omega arith)
    (subst (λ (q : Kind). FitsIn (uses q).a (field_with draw f.a A)) k xa)
    (subst (λ (q : Kind). FitsIn (uses q).b (field_with draw f.b B)) k xb)
    (subst (λ (q : Kind). FitsIn (uses q).c (field_with draw f.c C)) k xc)

field_height : (draw : ℕ → Drawn) (v d : ℕ) (cs : List Child)
    → ((c : Child) → In c cs → height (draw c.at) ≤ d) → height_in (field_with draw v cs) ≤ d
unfolding height_in
field_height draw v d [] h = omega arith
field_height draw v d (c ∷ cs) h = h c In.first

node_height : (draw : ℕ → Drawn) (k d : ℕ) (f : Frame)
    → ((c : Child) → In c (children f) → height (draw c.at) ≤ d)
    → height (node_with draw k f) ≤ suc d
unfolding children height
node_height draw k d f h =
    let A = child_in (uses f.kind).a f.a in
    let B = child_in (uses f.kind).b f.b in
    let C = child_in (uses f.kind).c f.c in
    let xa = field_height draw f.a d A (λ c m. h c (in_left (in_left m B) C)) in
    let xb = field_height draw f.b d B (λ c m. h c (in_left (in_right A m) C)) in
    let xc = field_height draw f.c d C (λ c m. h c (in_right (A ++ B) m)) in
    omega arith

-- ---- ranks of a list of trees
ranked_only : (r m : ℕ) {ys : List Drawn} → All (λ (t : Drawn). (tree_rank t ≡ r) × Fits t) ys
    → m ≤ r → r < ranks → Ranked m ys
ranked_only r m All.none l k = Ranked.done
ranked_only r m (All.more {x = t} h hs) l k =
    let e = h.0 in
    Ranked.more {m = m} {t = t} (omega arith) (omega arith) h.1 (ranked_only r (tree_rank t) hs (omega arith) k)

ranked_on : {m : ℕ} {xs : List Drawn} (r : ℕ) {ys : List Drawn} → Ranked m xs
    → All (λ (t : Drawn). tree_rank t ≤ r) xs → All (λ (t : Drawn). (tree_rank t ≡ r) × Fits t) ys
    → m ≤ r → r < ranks → Ranked m (xs ++ ys)
ranked_on r (Ranked.done {m = m}) h ys l k = ranked_only r m ys l k
ranked_on r (Ranked.more {t = t} a b f q) (All.more x xs) ys l k =
    Ranked.more a b f (ranked_on r q xs ys x k)

all_on : {P : Drawn → Type 0} {xs ys : List Drawn} → All P xs → All P ys → All P (xs ++ ys)
all_on All.none b = b
all_on (All.more p a) b = All.more p (all_on a b)

all_weaker : {P Q : Drawn → Type 0} {xs : List Drawn} → ((t : Drawn) → P t → Q t) → All P xs
    → All Q xs
all_weaker f All.none = All.none
all_weaker f (All.more {x = x} p a) = All.more (f x p) (all_weaker f a)

pub map_append : (draw : ℕ → Drawn) (xs ys : List ℕ)
    → map draw (xs ++ ys) ≡ map draw xs ++ map draw ys
map_append draw [] ys = refl
map_append draw (x ∷ xs) ys = ap (λ (t : List Drawn). draw x ∷ t) (map_append draw xs ys)

-- the header is the only kind of its rank
pub is_header_lem : (k : Kind) → is_header k ≡ true → k ≡ Header
is_header_lem Header h = refl
is_header_lem (Declared d) h = absurd (true≢false (sym h))
is_header_lem Module h = absurd (true≢false (sym h))
is_header_lem (Statement k) h = absurd (true≢false (sym h))
is_header_lem (Expression k) h = absurd (true≢false (sym h))
is_header_lem Unknown h = absurd (true≢false (sym h))

-- ---- a writable file
module _ (ws : List ℕ) (writable : Writable (frames_of ws)) where
  abbrev Fs : List Frame
  Fs = frames_of ws

  -- a drawn tree's root has the frame's kind
  pub root_kind : {d i : ℕ} → Within Fs d i → i < length ws
      → tree_kind (drawn d ws i) ≡ (frame_at Fs i).kind
  unfolding drawn
  root_kind (within {d = d} {i = i} g) l =
      sym (kind_head (get_or ws i 0)) ∙ ap (λ (f : Frame). f.kind) (sym (frame_at_lem ws i no_frame l))

  root_rank : {d i : ℕ} → Within Fs d i → i < length ws
      → tree_rank (drawn d ws i) ≡ rank_of (frame_at Fs i)
  root_rank w l = ap rank (root_kind w l)

  child_class : (i : ℕ) (c : Child) → In c (children (frame_at Fs i)) → i < length ws
      → class_of (frame_at Fs c.at).kind ≡ c.class
  child_class i c m l = go (same_class (class_of (frame_at Fs c.at).kind) c.class) refl
    where
      go : (b : Bool) → same_class (class_of (frame_at Fs c.at).kind) c.class ≡ b
          → class_of (frame_at Fs c.at).kind ≡ c.class
      go true e = class_same _ _ e
      go false e =
          let n = frames_length ws in
          absurd (writable.shaped i (ShapeFault.class (omega arith) m (λ q. true≢false (sym (class_refl (class_of (frame_at Fs c.at).kind)) ∙ ap (same_class (class_of (frame_at Fs c.at).kind)) q ∙ e))))

  pub drawn_fits : {d i : ℕ} → Within Fs d i → i < length ws → Fits (drawn d ws i)
  unfolding drawn
  drawn_fits (within {d = d} {i = i} g) l = node_fits (λ j. drawn d ws j) (get_or ws i 0) (λ c m.
      let n = as_frame ws (lines_inside ws writable) i c l m in
      let k = lines_inside ws writable i c n in
      (ap class_of (root_kind (g c n) k) ∙ child_class i c n l, drawn_fits (g c n) k))

  pub drawn-height : {d i : ℕ} → Within Fs d i → i < length ws → height (drawn d ws i) ≤ d
  unfolding drawn
  drawn-height (within {d = d} {i = i} g) l =
      node_height (λ j. drawn d ws j) (head_of (get_or ws i 0)) d (frame_of_word (get_or ws i 0)) (λ c m.
      let n = as_frame ws (lines_inside ws writable) i c l m in
      drawn-height (g c n) (lines_inside ws writable i c n))

  abbrev draw : ℕ → Drawn
  draw i = drawn levels ws i

  -- ---- the trees of one rank
  abbrev OfRank : ℕ → Drawn → Type 0
  OfRank r t = ((tree_rank t ≡ r) × Fits t) × (height t ≤ levels)

  one_rank : (r : ℕ) → r < ranks → (i : ℕ) (fs : List Frame)
      → ((q : ℕ) → q < length fs → frame_at fs q ≡ frame_at Fs (i + q)) → i + length fs ≡ length Fs
      → All (OfRank r) (map draw (numbered r i fs))
  unfolding numbered
  one_rank r l i [] same s = All.none
  one_rank r l i (f ∷ fs) same s =
      go (eqb (rank_of f) r) refl (one_rank r l (suc i) fs (λ q k. (let z : i + suc q ≡ suc i + q = omega arith in same (suc q) (omega arith) ∙ ap (frame_at Fs) z)) (omega arith))
    where
      here : rank_of f ≡ rank_of (frame_at Fs i)
      here = let z : i + 0 ≡ i = omega arith in ap rank_of (same 0 (omega arith) ∙ ap (frame_at Fs) z)

      go : (b : Bool) → eqb (rank_of f) r ≡ b → All (OfRank r) (map draw (numbered r (suc i) fs))
          → All (OfRank r) (map draw ((when eqb (rank_of f) r then i ∷ [] else []) ++ numbered r (suc i) fs))
      go true e h =
          let n = frames_length ws in
          let x = eqb-true (rank_of f) r e in
          let y = here in
          let k : i < length ws = omega arith in
          let w = roots_within ws writable i (omega arith) (omega arith) in
          let q = root_rank w k in
          rw (if_yes (i ∷ []) [] e) (All.more ((q ∙ sym y ∙ x, drawn_fits w k), drawn-height w k) h)
      go false e h = rw (if_no (i ∷ []) [] e) h

  record Trees (r : ℕ) : Type 0 where
    ranked : Ranked 0 (map draw (roots_to r Fs))
    lower : All (λ (t : Drawn). tree_rank t < r) (map draw (roots_to r Fs))
    flat : All (λ (t : Drawn). height t ≤ levels) (map draw (roots_to r Fs))

  trees : (r : ℕ) → r ≤ ranks → Trees r
  unfolding roots_to
  trees zero l = record { ranked = Ranked.done; lower = All.none; flat = All.none }
  trees (suc r) l =
      let t = trees r (omega arith) in
      let new = one_rank r (omega arith) 0 Fs (λ q k. (let z : q ≡ 0 + q = omega arith in ap (frame_at Fs) z)) (omega arith) in
      let e = map_append draw (roots_to r Fs) (numbered r 0 Fs) in
      record {
        ranked =
            subst (Ranked 0) (sym e) (ranked_on r t.ranked (all_weaker (λ x p. omega arith) t.lower) (all_weaker (λ x p. p.0) new) (omega arith) (omega arith));
        lower =
            subst (All (λ (t : Drawn). tree_rank t < suc r)) (sym e) (all_on (all_weaker (λ x p. omega arith) t.lower) (all_weaker (λ x p. (let q = p.0.0 in omega arith)) new));
        flat =
            subst (All (λ (t : Drawn). height t ≤ levels)) (sym e) (all_on t.flat (all_weaker (λ x p. p.1) new));
      }

  -- ---- the header comes first, and is one line
  pub first_kind : (frame_at Fs 0).kind ≡ Header
  first_kind = go (header_fine Fs) refl
    where
      go : (b : Bool) → header_fine Fs ≡ b → (frame_at Fs 0).kind ≡ Header
      go true e = is_header_lem (frame_at Fs 0).kind (fine_header Fs e).kind
      go false e = absurd (writable.early WrongHeader 0 (omega arith) (Fault.header e))

  pub record Begins (is : List ℕ) : Type 0 where
    pub rest : List ℕ
    pub same : is ≡ 0 ∷ rest

  first_root : (fs : List Frame) → 0 < length fs → rank_of (frame_at fs 0) ≡ 0
      → Begins (numbered 0 0 fs)
  unfolding numbered
  first_root [] l e = absurd (omega arith)
  first_root (f ∷ fs) l e =
      record { rest = numbered 0 1 fs; same = ap (λ (t : List ℕ). t ++ numbered 0 1 fs) (if_yes (0 ∷ []) [] (eq-eqb (rank_of f) 0 e)) }

  pub begins : (r : ℕ) → 0 < length Fs → Begins (roots_to (suc r) Fs)
  unfolding roots_to
  begins zero l = first_root Fs l (ap rank first_kind)
  begins (suc r) l =
      let b = begins r l in
      record { rest = b.rest ++ numbered (suc r) 0 Fs; same = ap (λ (t : List ℕ). t ++ numbered (suc r) 0 Fs) b.same }

  pub header_size : 0 < length ws → size (draw 0) ≡ 1
  unfolding drawn over children
  header_size l =
      let f = frame_of_word (get_or ws 0 0) in
      let k : f.kind ≡ Header = ap (λ (g : Frame). g.kind) (sym (frame_at_lem ws 0 no_frame l)) ∙ first_kind in
      node_size (λ j. drawn most_depth ws j) (head_of (get_or ws 0 0)) f ∙ ap (λ (cs : List Child). 1 + over (λ j. size (drawn most_depth ws j)) cs) (children_as_lem f Header k)

  lost : length (lined_all 0 (map draw (roots_to ranks Fs))) ≡ length ws
  unfolding drawing laid_out
  lost = nothing_lost ws writable

  pub same_drawing : 0 < length ws → length ws ≤ 1024 → drawing (laid_out (drawing ws)) ≡ drawing ws
  unfolding drawing laid_out
  same_drawing l s =
      let n = frames_length ws in
      let t = trees ranks (omega arith) in
      let b = begins module_rank (omega arith) in
      let e : map draw (roots_to ranks Fs) ≡ draw 0 ∷ map draw b.rest = ap (map draw) b.same in
      let a = all_lined 0 (map draw (roots_to ranks Fs)) in
      let c : length (lined_all 0 (map draw (roots_to ranks Fs))) ≡ length ws = lost in
      let z : sizes (map draw (roots_to ranks Fs)) ≤ 16 ^ 4 = omega arith in
      ap (λ (ts : List Drawn). drawing (laid_out ts)) e
      ∙ drawing_back (subst (Ranked 0) e t.ranked) (subst (All (λ (t : Drawn). height t ≤ levels)) e t.flat) (header_size l) (subst (λ (ts : List Drawn). sizes ts ≤ 16 ^ 4) e z)
      ∙ sym e

  -- ---- the lines laid out: each is a tree's root, used or a root of the file, and at most 24 deep
  pub out_spots : 0 < length ws → length ws ≤ 1024 → (p : ℕ) → p < length (laid_out (drawing ws))
      → Spot (laid_out (drawing ws)) p
  unfolding drawing laid_out
  out_spots l s p q =
      let n = frames_length ws in
      let t = trees ranks (omega arith) in
      let b = begins module_rank (omega arith) in
      let e : map draw (roots_to ranks Fs) ≡ draw 0 ∷ map draw b.rest = ap (map draw) b.same in
      let a = all_lined 0 (map draw (roots_to ranks Fs)) in
      let c : length (lined_all 0 (map draw (roots_to ranks Fs))) ≡ length ws = lost in
      let z : sizes (map draw (roots_to ranks Fs)) ≤ 16 ^ 4 = omega arith in
      let y : p < sizes (map draw (roots_to ranks Fs)) = omega arith in
      whole_spots (lined_all 0 (map draw (roots_to ranks Fs))) (subst (Ranked 0) e t.ranked) (subst (All (λ (t : Drawn). height t ≤ levels)) e t.flat) (header_size l) (ap (lined_all 0) e) (subst (λ (ts : List Drawn). sizes ts ≤ 16 ^ 4) e z) p (subst (λ (ts : List Drawn). p < sizes ts) e y)

  -- every word has 16 digits
  pub out_small : 0 < length ws → length ws ≤ 1024
      → All (λ (w : ℕ). w < 16 ^ 16) (laid_out (drawing ws))
  unfolding drawing laid_out
  out_small l s =
      let t = trees ranks (omega arith) in
      let a = all_lined 0 (map draw (roots_to ranks Fs)) in
      let c : length (lined_all 0 (map draw (roots_to ranks Fs))) ≡ length ws = lost in
      all_small t.ranked 0 (omega arith)

  -- no declaration stands after a frame that it should precede
  pub out_in_place : 0 < length ws → length ws ≤ 1024 → (i j : ℕ) (d : DeclarationKind) → i < j
      → j < length (frames_of (laid_out (drawing ws)))
      → (frame_at (frames_of (laid_out (drawing ws))) j).kind ≡ Declared d
      → declaration_rank d < file_rank (frame_at (frames_of (laid_out (drawing ws))) i).kind
      → ⊥
  unfolding drawing laid_out
  out_in_place l s i j d q k h g =
      let n = frames_length ws in
      let ts : List Drawn = map draw (roots_to ranks Fs) in
      let out : List ℕ = lined_all 0 ts in
      let t = trees ranks (omega arith) in
      let b = begins module_rank (omega arith) in
      let e : map draw (roots_to ranks Fs) ≡ draw 0 ∷ map draw b.rest = ap (map draw) b.same in
      let a : length (lined_all 0 (map draw (roots_to ranks Fs))) ≡ sizes (map draw (roots_to ranks Fs)) = all_lined 0 (map draw (roots_to ranks Fs)) in
      let c : length (lined_all 0 (map draw (roots_to ranks Fs))) ≡ length ws = lost in
      let o : length (frames_of (lined_all 0 (map draw (roots_to ranks Fs)))) ≡ length (lined_all 0 (map draw (roots_to ranks Fs))) = frames_length (lined_all 0 (map draw (roots_to ranks Fs))) in
      let begun : Begun out 0 ts = record { pre = []; len = refl; same = refl; room = omega arith; first = inr (λ x us z. (let w : draw 0 ≡ x = cc in ap size (sym w) ∙ header_size l)) } in
      let r : rank_of (frame_at (frames_of out) j) ≡ declaration_rank d = ap rank h in
      let m = declared_rank d in
      let f = before out t.ranked begun i j (omega arith) q (omega arith) (omega arith) in
      let p = file_rank_lem (frame_at (frames_of out) i).kind in
      omega arith
