-- Every line laid out from a writable file is one of the file's, but for the numbers of its
-- children. Assumes nothing.
use mathlib.Core.Path.{◌≡◌, refl, sym, ap, subst, ◌∙◌}
use mathlib.Core.Bool.{Bool, true, false}
use mathlib.Core.List.{List, [], ◌∷◌, ◌++◌, map}
use Prim.Native.Nat.{ℕ, zero, suc, ◌+◌, ◌/◌, ◌%◌, ◌^◌, ◌≤◌, ◌<◌}
use native.Mathlib.Omega.{arith}
use lib.Dec.{eqb}
use lib.ListN.{length, get_or}
use borrow.Author.Tests.{eqb-true}
use Rattle.basics.specs.If.{when◌then◌else◌}
use Rattle.basics.specs.Members.{In, All}
use Rattle.basics.proofs.Ifs.{if_yes, if_no}
use Rattle.language.specs.Kinds.{kind_of, uses, Child, child_in, children}
use Rattle.language.specs.declared.kind.Use.{Use}
use Rattle.language.specs.declared.frame.Frame.{Frame}
use Rattle.text.specs.Frames.{frame_of_word, frames_of}
use Rattle.text.proofs.FrameWords.{frames_length, frame_at_lem}
use Rattle.program.specs.Trees.{no_frame, frame_at}
use Rattle.drawing.specs.Drawings.{head_of, Drawn, Field, node, kept, child, size, size_in}
use Rattle.drawing.specs.Drawings.{field_with, node_with, drawn, value_from, root_line}
use Rattle.drawing.specs.Drawings.{lined, lined_in, lined_all, module_rank, ranks, levels}
use Rattle.drawing.specs.Drawings.{numbered, roots_to, drawing, laid_out}
use Rattle.drawing.specs.Writings.{Writable}
use Rattle.drawing.proofs.Lines.{word_frame, frame_head, frame_fits}
use Rattle.drawing.proofs.Fields.{Held, held}
use Rattle.drawing.proofs.Back.{root_inside, some_size}
use Rattle.drawing.proofs.InOrder.{Within, within, in_left, in_right}
use Rattle.drawing.proofs.Roots.{rank_of}
use Rattle.drawing.proofs.Counted.{lines_inside, roots_within, nothing_lost}
use Rattle.drawing.proofs.Shapes.{sizes, all_lined}
use Rattle.drawing.proofs.Writables.{begins, header_size}

-- g is f, but for the numbers of children; and where A was not 0 it is not 0
pub record Like (f g : Frame) : Type 0 where
  pub kind : g.kind ≡ f.kind
  pub s : g.s ≡ f.s
  pub a : child_in (uses f.kind).a f.a ≡ [] → g.a ≡ f.a
  pub b : child_in (uses f.kind).b f.b ≡ [] → g.b ≡ f.b
  pub c : child_in (uses f.kind).c f.c ≡ [] → g.c ≡ f.c
  pub some : 0 < f.a → 0 < g.a

-- a line that is like one of the frames
pub record LineOf (fs : List Frame) (w : ℕ) : Type 0 where
  pub at : ℕ
  pub inside : at < length fs
  pub like : Like (frame_at fs at) (frame_of_word w)

-- ---- trees each of whose nodes was made from one of the frames
mutual
  pub data Made (fs : List Frame) : Drawn → Type 0 where
    made : {h : ℕ} {a b c : Field} (i : ℕ)
        → i < length fs
        → h < 16 ^ 4
        → (frame_at fs i).kind ≡ kind_of (h / 16 ^ 2)
        → (frame_at fs i).s ≡ h % 16 ^ 2
        → MadeIn fs (uses (frame_at fs i).kind).a (frame_at fs i).a a
        → MadeIn fs (uses (frame_at fs i).kind).b (frame_at fs i).b b
        → MadeIn fs (uses (frame_at fs i).kind).c (frame_at fs i).c c
        → Made fs (node h a b c)

  pub data MadeIn (fs : List Frame) : Use → ℕ → Field → Type 0 where
    keeps : {u : Use} {v : ℕ} → v < 16 ^ 4 → MadeIn fs u v (kept v)
    names : {u : Use} {v : ℕ} {t : Drawn} → (child_in u v ≡ [] → ⊥) → Made fs t
        → MadeIn fs u v (child t)

module _ {fs : List Frame} where
  made_value : {u : Use} {v : ℕ} {x : Field} → MadeIn fs u v x → (n : ℕ) → n + size_in x ≤ 16 ^ 4
      → value_from n x < 16 ^ 4
  unfolding value_from size_in
  made_value (MadeIn.keeps l) n s = l
  made_value (MadeIn.names {t = t} k m) n s = let r = root_inside n t in omega arith

  made_same : {u : Use} {v : ℕ} {x : Field} → MadeIn fs u v x → (n : ℕ) → child_in u v ≡ []
      → value_from n x ≡ v
  unfolding value_from
  made_same (MadeIn.keeps l) n e = refl
  made_same (MadeIn.names k m) n e = absurd (k e)

  made_some : {u : Use} {v : ℕ} {x : Field} → MadeIn fs u v x → (n : ℕ) → (0 < size_in x → 0 < n)
      → 0 < v → 0 < value_from n x
  unfolding value_from size_in
  made_some (MadeIn.keeps l) n z p = p
  made_some (MadeIn.names {t = t} k m) n z p =
      let r = root_inside n t in
      let w = some_size t in
      let q = z w in
      omega arith

-- ---- their lines
pub all_join : {A : Type 0} {P : A → Type 0} {xs ys : List A} → All P xs → All P ys
    → All P (xs ++ ys)
all_join All.none b = b
all_join (All.more p a) b = All.more p (all_join a b)

mutual
  unfolding lined size

  tree_lines : {fs : List Frame} {t : Drawn} → Made fs t → (n : ℕ) → n + size t ≤ 16 ^ 4
      → (1 < size t → 0 < n) → All (LineOf fs) (lined n t)
  tree_lines {fs} (Made.made {h} {a} {b} {c} i l lh k s fa fb fc) n room z =
      let va = made_value fa n (omega arith) in
      let vb = made_value fb (n + size_in a) (omega arith) in
      let vc = made_value fc (n + size_in a + size_in b) (omega arith) in
      let like = subst (Like (frame_at fs i)) (sym (word_frame h _ _ _ lh va vb vc))
      (record {
        kind = sym k;
        s = sym s;
        a = made_same fa n;
        b = made_same fb (n + size_in a);
        c = made_same fc (n + size_in a + size_in b);
        some = made_some fa n (λ q. z (omega arith));
      }) in
      let line : LineOf fs (root_line n h a b c) = record { at = i; inside = l; like = like } in
      all_join (field_lines fa n (omega arith) (λ q. z (omega arith)))
      (all_join (field_lines fb (n + size_in a) (omega arith) (λ q. (let y = z (omega arith) in omega arith)))
      (all_join (field_lines fc (n + size_in a + size_in b) (omega arith) (λ q. (let y = z (omega arith) in omega arith)))
      (All.more line All.none)))

  field_lines : {fs : List Frame} {u : Use} {v : ℕ} {x : Field} → MadeIn fs u v x → (n : ℕ)
      → n + size_in x ≤ 16 ^ 4 → (0 < size_in x → 0 < n) → All (LineOf fs) (lined_in n x)
  field_lines (MadeIn.keeps l) n s z = All.none
  field_lines (MadeIn.names {t = t} k m) n s z =
      let p = z (some_size t) in
      tree_lines m n s (λ q. p)

-- the lines of trees, from a number on that is not 0
all_lines : {fs : List Frame} {ts : List Drawn} → All (Made fs) ts → (n : ℕ)
    → n + sizes ts ≤ 16 ^ 4 → 0 < n → All (LineOf fs) (lined_all n ts)
unfolding lined_all sizes
all_lines All.none n s z = All.none
all_lines (All.more {x = t} {xs = ts} m ms) n s z =
    all_join (tree_lines m n (omega arith) (λ q. z)) (all_lines ms (n + size t) (omega arith) (omega arith))

-- ---- drawn trees are such
no_child : {c : Child} → [] ≡ c ∷ [] → ⊥
no_child e = let z : ◌≡◌ {A = ℕ} 0 1 = ap length e in omega arith

field_made : {fs : List Frame} (draw : ℕ → Drawn) (u : Use) (v : ℕ) → v < 16 ^ 4
    → ((c : Child) → In c (child_in u v) → Made fs (draw c.at))
    → MadeIn fs u v (field_with draw v (child_in u v))
field_made {fs} draw u v l h = go (held u v)
  where
    go : Held u v → MadeIn fs u v (field_with draw v (child_in u v))
    go (Held.keeps e) =
        subst (λ (cs : List Child). MadeIn fs u v (field_with draw v cs)) (sym e) (MadeIn.keeps l)
    go (Held.names n e) =
        let p = h (record { class = n.class; at = v }) (subst (λ (cs : List Child). In (record { class = n.class; at = v }) cs) (sym e) In.first) in
        subst (λ (cs : List Child). MadeIn fs u v (field_with draw v cs)) (sym e) (MadeIn.names (λ q. no_child (sym q ∙ e)) p)

node_made : {fs : List Frame} (draw : ℕ → Drawn) (i h : ℕ) → i < length fs → h < 16 ^ 4
    → (frame_at fs i).kind ≡ kind_of (h / 16 ^ 2) → (frame_at fs i).s ≡ h % 16 ^ 2
    → ((frame_at fs i).a < 16 ^ 4) × ((frame_at fs i).b < 16 ^ 4) × ((frame_at fs i).c < 16 ^ 4)
    → ((c : Child) → In c (children (frame_at fs i)) → Made fs (draw c.at))
    → Made fs (node_with draw h (frame_at fs i))
unfolding children
node_made {fs} draw i h l lh k s z m =
    let f = frame_at fs i in
    let A = child_in (uses f.kind).a f.a in
    let B = child_in (uses f.kind).b f.b in
    let C = child_in (uses f.kind).c f.c in
    Made.made i l lh k s
    (field_made draw (uses f.kind).a f.a z.0 (λ c q. m c (in_left (in_left q B) C)))
    (field_made draw (uses f.kind).b f.b z.1 (λ c q. m c (in_left (in_right A q) C)))
    (field_made draw (uses f.kind).c f.c z.2 (λ c q. m c (in_right (A ++ B) q)))

-- what holds of all frames of a rank holds of their numbers
numbered_all : (P : ℕ → Type 0) (r i : ℕ) (fs : List Frame)
    → ((q : ℕ) → q < length fs → rank_of (frame_at fs q) ≡ r → P (i + q)) → All P (numbered r i fs)
unfolding numbered
numbered_all P r i [] h = All.none
numbered_all P r i (f ∷ fs) h =
    go (eqb (rank_of f) r) refl (numbered_all P r (suc i) fs (λ q l e. (let z : i + suc q ≡ suc i + q = omega arith in subst P z (h (suc q) (omega arith) e))))
  where
    go : (b : Bool) → eqb (rank_of f) r ≡ b → All P (numbered r (suc i) fs)
        → All P ((when eqb (rank_of f) r then i ∷ [] else []) ++ numbered r (suc i) fs)
    go true e a =
        let z : i + 0 ≡ i = omega arith in
        rw (if_yes (i ∷ []) [] e) (All.more (subst P z (h 0 (omega arith) (eqb-true (rank_of f) r e))) a)
    go false e a = rw (if_no (i ∷ []) [] e) a

map_all : {P : Drawn → Type 0} (draw : ℕ → Drawn) {is : List ℕ} → All (λ i. P (draw i)) is
    → All P (map draw is)
map_all draw All.none = All.none
map_all draw (All.more p a) = All.more p (map_all draw a)

module _ (ws : List ℕ) (writable : Writable (frames_of ws)) where
  abbrev Fs : List Frame
  Fs = frames_of ws

  drawn_made : {d i : ℕ} → Within Fs d i → i < length ws → Made Fs (drawn d ws i)
  unfolding drawn
  drawn_made (within {d = d} {i = i} g) l =
      let n = frames_length ws in
      let draw : ℕ → Drawn = λ j. drawn d ws j in
      let w : ℕ = get_or ws i 0 in
      let e : frame_at Fs i ≡ frame_of_word (get_or ws i 0) = frame_at_lem ws i no_frame l in
      let q = e ∙ frame_head (get_or ws i 0) in
      subst (λ (f : Frame). Made Fs (node_with draw (head_of w) f)) e (node_made draw i (head_of w) (omega arith) (omega arith) (ap (λ (f : Frame). f.kind) q) (ap (λ (f : Frame). f.s) q) (subst (λ (f : Frame). (f.a < 16 ^ 4) × (f.b < 16 ^ 4) × (f.c < 16 ^ 4)) (sym e) (frame_fits w)) (λ c m. drawn_made (g c m) (lines_inside ws writable i c m)))

  roots_made : (r : ℕ) → r ≤ ranks → All (λ i. Made Fs (drawn levels ws i)) (roots_to r Fs)
  unfolding roots_to
  roots_made zero l = All.none
  roots_made (suc r) l =
      let n = frames_length ws in
      all_join (roots_made r (omega arith)) (numbered_all (λ i. Made Fs (drawn levels ws i)) r 0 Fs (λ q k e. (let z : q ≡ 0 + q = omega arith in subst (λ (i : ℕ). Made Fs (drawn levels ws i)) z (drawn_made (roots_within ws writable q k (omega arith)) (omega arith)))))

  -- the header's tree is one line, so what comes after it has numbers that are not 0
  whole_lines : {t : Drawn} {ts : List Drawn} → All (Made Fs) (t ∷ ts) → size t ≡ 1
      → sizes (t ∷ ts) ≤ 16 ^ 4 → All (LineOf Fs) (lined_all 0 (t ∷ ts))
  unfolding lined_all sizes
  whole_lines {t = t} (All.more m ms) one s =
      all_join (tree_lines m 0 (omega arith) (λ q. absurd (omega arith))) (all_lines ms (0 + size t) (omega arith) (omega arith))

  pub out_lines : 0 < length ws → length ws ≤ 1024 → All (LineOf Fs) (laid_out (drawing ws))
  unfolding drawing laid_out
  out_lines l s =
      let n = frames_length ws in
      let draw : ℕ → Drawn = λ i. drawn levels ws i in
      let b = begins ws writable module_rank (omega arith) in
      let e : map draw (roots_to ranks Fs) ≡ draw 0 ∷ map draw b.rest = ap (map draw) b.same in
      let a = all_lined 0 (map draw (roots_to ranks Fs)) in
      let c : length (lined_all 0 (map draw (roots_to ranks Fs))) ≡ length ws = nothing_lost ws writable in
      let z : sizes (map draw (roots_to ranks Fs)) ≤ 16 ^ 4 = omega arith in
      let m = map_all draw (roots_made ranks (omega arith)) in
      subst (λ (ts : List Drawn). All (LineOf Fs) (lined_all 0 ts)) (sym e) (whole_lines (subst (All (Made Fs)) e m) (header_size ws writable l) (subst (λ (ts : List Drawn). sizes ts ≤ 16 ^ 4) e z))
