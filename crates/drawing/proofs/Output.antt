-- Lines laid out from trees: every line is the root of a tree, has a user or is a tree's root, and
-- stands no deeper than the tree is high. Assumes nothing.
use mathlib.Core.Path.{◌≡◌, refl, sym, ap, subst, ◌∙◌}
use mathlib.Core.Logic.{◌⊎◌, inl, inr, ⊎_elim}
use mathlib.Core.Bool.{Bool, true, false, true≢false}
use mathlib.Core.List.{List, [], ◌∷◌, ◌++◌, append_assoc}
use Prim.Native.Nat.{ℕ, suc, ◌+◌, ◌/◌, ◌%◌, ◌^◌, ◌≤◌, ◌<◌}
use native.Mathlib.Omega.{arith}
use lib.Dec.{ltb}
use lib.ListN.{length, length-append, get_or}
use lib.Seq.{get_or_at}
use borrow.Author.Tests.{ltb-true, ltb-false}
use Rattle.basics.specs.Members.{In, All}
use Rattle.language.specs.Kinds.{kind_of, class_of, uses, Child, child_in, children}
use Rattle.language.specs.declared.kind.Kind.{Kind}
use Rattle.language.specs.declared.kind.Class.{Class}
use Rattle.language.specs.declared.kind.Use.{Use}
use Rattle.language.specs.declared.frame.Frame.{Frame}
use Rattle.text.specs.Frames.{frame_of_word, frames_of}
use Rattle.text.proofs.FrameWords.{frames_length, frame_at_lem}
use Rattle.program.specs.Trees.{no_frame, frame_at}
use Rattle.layout.specs.Order.{Tree, Row, has_child, has_class}
use Rattle.layout.specs.Depths.{Depth}
use Rattle.layout.proofs.Trees.{in_body, none_in}
use Rattle.drawing.specs.Drawings.{Drawn, Field, node, kept, child, size, size_in, root_from}
use Rattle.drawing.specs.Drawings.{value_from, root_line, lined, lined_in, lined_all, ranks}
use Rattle.drawing.specs.Drawings.{levels}
use Rattle.drawing.proofs.Heights.{height, height_in}
use Rattle.drawing.proofs.Lines.{frame_of, word_frame}
use Rattle.drawing.proofs.Fields.{Names}
use Rattle.drawing.proofs.Back.{tree_kind, tree_rank, Fits, FitsIn, lined-length}
use Rattle.drawing.proofs.Back.{lined_in-length, root_inside, some_size, value_fits}
use Rattle.drawing.proofs.InOrder.{in_left, in_right}
use Rattle.drawing.proofs.Tiles.{root_class}
use Rattle.drawing.proofs.Cycles.{has_child_lem}
use Rattle.drawing.proofs.Shapes.{Ranked, sizes}

row_join : {fs : List Frame} {lo mid stop : ℕ} {xs ys : List Child} → Row fs lo mid xs
    → Row fs mid stop ys → Row fs lo stop (xs ++ ys)
row_join Row.none r = r
row_join (Row.more t e r) s = Row.more t e (row_join r s)

-- a member of two lists joined
in_either : {c : Child} (xs : List Child) {ys : List Child} → In c (xs ++ ys) → In c xs ⊎ In c ys
in_either [] m = inr m
in_either (x ∷ xs) In.first = inl In.first
in_either (x ∷ xs) (In.later m) = ⊎_elim (λ a. inl (In.later a)) (λ b. inr b) (in_either xs m)

-- the S of a tree's root
abbrev pub tree_s : Drawn → ℕ
tree_s (node h a b c) = h % 16 ^ 2

-- a root of the file, or some frame's child
pub data Up (ws : List ℕ) (p : ℕ) (t : Drawn) : Type 0 where
  top : tree_rank t < ranks → Up ws p t
  inner : (i : ℕ) → i < length ws → has_child p (frame_at (frames_of ws) i) ≡ true → Up ws p t

module _ (ws : List ℕ) where
  abbrev Fs : List Frame
  Fs = frames_of ws

  -- the tree t lies among the lines, from n on; the field x, of a use u, from m on
  pub record Lies (n : ℕ) (t : Drawn) : Type 0 where
    pub pre : List ℕ
    pub after : List ℕ
    pub len : length pre ≡ n
    pub same : ws ≡ pre ++ (lined n t ++ after)
    pub fits : Fits t
    pub room : n + size t ≤ 16 ^ 4
    pub begin : 1 < size t → 0 < n

  pub record LiesIn (u : Use) (n : ℕ) (x : Field) : Type 0 where
    pub pre : List ℕ
    pub after : List ℕ
    pub len : length pre ≡ n
    pub same : ws ≡ pre ++ (lined_in n x ++ after)
    pub fits : FitsIn u x
    pub room : n + size_in x ≤ 16 ^ 4
    pub begin : 0 < size_in x → 0 < n

  -- its root's frame, and its fields
  pub record Parts (n h : ℕ) (a b c : Field) : Type 0 where
    pub inside : n + (size_in a + size_in b + size_in c) < length ws
    pub frame : frame_at Fs (n + (size_in a + size_in b + size_in c)) ≡ frame_of h (value_from n a) (value_from (n + size_in a) b) (value_from (n + size_in a + size_in b) c)
    pub first : LiesIn (uses (kind_of (h / 16 ^ 2))).a n a
    pub second : LiesIn (uses (kind_of (h / 16 ^ 2))).b (n + size_in a) b
    pub third : LiesIn (uses (kind_of (h / 16 ^ 2))).c (n + size_in a + size_in b) c

  parts_by : (n h : ℕ) (a b c : Field) (pre after : List ℕ) → length pre ≡ n
      → ws ≡ pre ++ (lined n (node h a b c) ++ after) → Fits (node h a b c)
      → n + size (node h a b c) ≤ 16 ^ 4 → (1 < size (node h a b c) → 0 < n) → Parts n h a b c
  unfolding lined size
  parts_by n h a b c pre after e w (Fits.fits lh fa fb fc) s z =
      let A = lined_in n a in
      let B = lined_in (n + size_in a) b in
      let C = lined_in (n + size_in a + size_in b) c in
      let x : ℕ = root_line n h a b c in
      let la = lined_in-length n a in
      let lb = lined_in-length (n + size_in a) b in
      let lc = lined_in-length (n + size_in a + size_in b) c in
      let pa : length (pre ++ A) ≡ n + size_in a = simp length-append (omega arith) in
      let pb : length (pre ++ (A ++ B)) ≡ n + size_in a + size_in b = simp length-append (omega arith) in
      let pc : length (pre ++ (A ++ (B ++ C))) ≡ n + (size_in a + size_in b + size_in c) = simp length-append (omega arith) in
      let wa : ws ≡ pre ++ (A ++ ((B ++ (C ++ (x ∷ []))) ++ after)) = w ∙ simp append_assoc in
      let wb : ws ≡ (pre ++ A) ++ (B ++ ((C ++ (x ∷ [])) ++ after)) = w ∙ simp append_assoc in
      let wc : ws ≡ (pre ++ (A ++ B)) ++ (C ++ (x ∷ after)) = w ∙ simp append_assoc in
      let wr : ws ≡ (pre ++ (A ++ (B ++ C))) ++ (x ∷ after) = w ∙ simp append_assoc in
      let i : ℕ = n + (size_in a + size_in b + size_in c) in
      let at : get_or ws i 0 ≡ x = ap (λ (l : List ℕ). get_or l i 0) wr ∙ get_or_at (pre ++ (A ++ (B ++ C))) x after 0 i pc in
      let lr : length ws ≡ length (pre ++ (A ++ (B ++ C))) + length (x ∷ after) = ap length wr ∙ length-append (pre ++ (A ++ (B ++ C))) (x ∷ after) in
      let va = value_fits n fa (omega arith) in
      let vb = value_fits (n + size_in a) fb (omega arith) in
      let vc = value_fits (n + size_in a + size_in b) fc (omega arith) in
      record {
        inside = omega arith;
        frame =
            frame_at_lem ws i no_frame (omega arith) ∙ ap frame_of_word at
            ∙ word_frame h _ _ _ lh va vb vc;
        first =
            record { pre = pre; after = (B ++ (C ++ (x ∷ []))) ++ after; len = e; same = wa; fits = fa; room = omega arith; begin = λ q. z (omega arith) };
        second =
            record { pre = pre ++ A; after = (C ++ (x ∷ [])) ++ after; len = pa; same = wb; fits = fb; room = omega arith; begin = λ q. (let g = z (omega arith) in omega arith) };
        third =
            record { pre = pre ++ (A ++ B); after = x ∷ after; len = pb; same = wc; fits = fc; room = omega arith; begin = λ q. (let g = z (omega arith) in omega arith) };
      }

  pub parts : {n h : ℕ} {a b c : Field} → Lies n (node h a b c) → Parts n h a b c
  parts {n} {h} {a} {b} {c} l =
      parts_by n h a b c l.pre l.after l.len l.same l.fits l.room l.begin

  -- a child that lies
  record ChildOf (u : Use) (n : ℕ) (t : Drawn) : Type 0 where
    names : Names u
    class : class_of (tree_kind t) ≡ names.class
    lies : Lies n t
    positive : 0 < root_from n t

  child_by : (u : Use) (n : ℕ) {x : Field} (t : Drawn) (pre after : List ℕ) → FitsIn u x
      → x ≡ child t → length pre ≡ n → ws ≡ pre ++ (lined_in n x ++ after) → n + size_in x ≤ 16 ^ 4
      → (0 < size_in x → 0 < n) → ChildOf u n t
  unfolding lined_in size_in
  child_by u n t pre after (FitsIn.keeps l e) q p w r z =
      absurd (let y : ◌≡◌ {A = ℕ} 0 1 = cc in omega arith)
  child_by u n t pre after (FitsIn.names {t = s} m k f) q p w r z =
      let e : s ≡ t = cc in
      let i = root_inside n s in
      let g = z (some_size s) in
      subst (ChildOf u n) e (record { names = m; class = k; lies = record { pre = pre; after = after; len = p; same = w; fits = f; room = r; begin = λ y. g }; positive = (let y = some_size s in omega arith) })

  child_in_lem : {u : Use} {n : ℕ} {t : Drawn} → LiesIn u n (child t) → ChildOf u n t
  child_in_lem {u} {n} {t} l =
      child_by u n t l.pre l.after l.fits refl l.len l.same l.room l.begin

  kept_by : {u : Use} {x : Field} (v : ℕ) → FitsIn u x → x ≡ kept v → child_in u v ≡ []
  kept_by v (FitsIn.keeps {u = u} {v = w} l e) q =
      let z : w ≡ v = cc in
      subst (λ (k : ℕ). child_in u k ≡ []) z e
  kept_by v (FitsIn.names m k f) q = absurd (let y : ◌≡◌ {A = ℕ} 0 1 = cc in omega arith)

  pub root_kind : (t : Drawn) (n : ℕ) → Lies n t → (frame_at Fs (root_from n t)).kind ≡ tree_kind t
  unfolding root_from
  root_kind (node h a b c) n l = ap (λ (f : Frame). f.kind) (parts l).frame

  pub root_s : (t : Drawn) (n : ℕ) → Lies n t → (frame_at Fs (root_from n t)).s ≡ tree_s t
  unfolding root_from
  root_s (node h a b c) n l = ap (λ (f : Frame). f.s) (parts l).frame

  -- ---- every tree that lies is one of the order's
  mutual
    unfolding root_from value_from size_in children

    pub tree_of : (t : Drawn) (n : ℕ) → Lies n t → Tree Fs n (root_from n t)
    tree_of (node h a b c) n l =
        let p = parts l in
        let i : ℕ = n + (size_in a + size_in b + size_in c) in
        let f = frame_of h (value_from n a) (value_from (n + size_in a) b) (value_from (n + size_in a + size_in b) c) in
        let e : n + size_in a + size_in b + size_in c ≡ i = omega arith in
        let r : Row Fs n (n + size_in a + size_in b + size_in c) (children f) = row_join (row_join (row_of a (uses (kind_of (h / 16 ^ 2))).a n p.first) (row_of b (uses (kind_of (h / 16 ^ 2))).b (n + size_in a) p.second)) (row_of c (uses (kind_of (h / 16 ^ 2))).c (n + size_in a + size_in b) p.third) in
        Tree.root (subst (λ (g : Frame). Row Fs n i (children g)) (sym p.frame) (subst (λ (k : ℕ). Row Fs n k (children f)) e r))

    row_of : (x : Field) (u : Use) (n : ℕ) → LiesIn u n x
        → Row Fs n (n + size_in x) (child_in u (value_from n x))
    row_of (kept v) u n l =
        let e : n ≡ n + 0 = omega arith in
        subst (λ (cs : List Child). Row Fs n (n + 0) cs) (sym (kept_by v l.fits refl)) (subst (λ (k : ℕ). Row Fs n k []) e Row.none)
    row_of (child t) u n l =
        let k = child_in_lem l in
        let e : suc (root_from n t) ≡ n + size t = root_inside n t in
        let c = k.names.names (root_from n t) k.positive in
        subst (λ (cs : List Child). Row Fs n (n + size t) cs) (sym c) (Row.more (tree_of t n k.lies) (ap class_of (root_kind t n k.lies) ∙ k.class) (subst (λ (m : ℕ). Row Fs (suc (root_from n t)) m []) e Row.none))

  -- ---- every line is the root of a tree that lies, and is a root of the file or some frame's
  -- child
  pub record Spot (p : ℕ) : Type 0 where
    pub start : ℕ
    pub tree : Drawn
    pub lies : Lies start tree
    pub at : root_from start tree ≡ p
    pub up : Up ws p tree
    pub flat : height tree ≤ levels

  mutual
    unfolding root_from value_from size height children

    spots : (t : Drawn) (n : ℕ) → Lies n t → Up ws (root_from n t) t → height t ≤ levels → (p : ℕ)
        → n ≤ p → p < n + size t → Spot p
    spots (node h a b c) n l up flat p x y =
        let q = parts l in
        let i : ℕ = n + (size_in a + size_in b + size_in c) in
        let A = child_in (uses (kind_of (h / 16 ^ 2))).a (value_from n a) in
        let B = child_in (uses (kind_of (h / 16 ^ 2))).b (value_from (n + size_in a) b) in
        let C = child_in (uses (kind_of (h / 16 ^ 2))).c (value_from (n + size_in a + size_in b) c) in
        let has : (d : Child) → In d ((A ++ B) ++ C) → has_child d.at (frame_at Fs i) ≡ true = λ d m. has_child_lem (frame_at Fs i) (subst (λ (g : Frame). In d (children g)) (sym q.frame) m) in
        by (ltb p (n + size_in a)) refl (ltb p (n + size_in a + size_in b)) refl (ltb p i) refl
        (λ z. spots_in a (uses (kind_of (h / 16 ^ 2))).a n i q.first q.inside (λ d m. has d (in_left (in_left m B) C)) (omega arith) p x z)
        (λ y z. spots_in b (uses (kind_of (h / 16 ^ 2))).b (n + size_in a) i q.second q.inside (λ d m. has d (in_left (in_right A m) C)) (omega arith) p y z)
        (λ y z. spots_in c (uses (kind_of (h / 16 ^ 2))).c (n + size_in a + size_in b) i q.third q.inside (λ d m. has d (in_right (A ++ B) m)) (omega arith) p y (omega arith))
        (λ z. (let e : i ≡ p = omega arith in subst Spot e (record { start = n; tree = node h a b c; lies = l; at = refl; up = up; flat = flat })))
      where
        by : {f g k : ℕ} (r : Bool) → ltb p f ≡ r → (s : Bool) → ltb p g ≡ s → (t : Bool)
            → ltb p k ≡ t → (p < f → Spot p) → (f ≤ p → p < g → Spot p) → (g ≤ p → p < k → Spot p)
            → (k ≤ p → Spot p) → Spot p
        by {f} {g} {k} true e s e' t e'' u v w z = u (ltb-true p f e)
        by {f} {g} {k} false e true e' t e'' u v w z = v (ltb-false p f e) (ltb-true p g e')
        by {f} {g} {k} false e false e' true e'' u v w z = w (ltb-false p g e') (ltb-true p k e'')
        by {f} {g} {k} false e false e' false e'' u v w z = z (ltb-false p k e'')

    spots_in : (x : Field) (u : Use) (n i : ℕ) → LiesIn u n x → i < length ws
        → ((d : Child) → In d (child_in u (value_from n x)) → has_child d.at (frame_at Fs i) ≡ true)
        → height_in x ≤ levels → (p : ℕ) → n ≤ p → p < n + size_in x → Spot p
    spots_in (kept v) u n i l k has flat p x y = absurd (omega arith)
    spots_in (child t) u n i l k has flat p x y =
        let q = child_in_lem l in
        let c = q.names.names (root_from n t) q.positive in
        spots t n q.lies (Up.inner i k (has (record { class = q.names.class; at = root_from n t }) (subst (λ (cs : List Child). In (record { class = q.names.class; at = root_from n t }) cs) (sym c) In.first))) flat p x y

  -- ---- a child of a tree's root lies, and is less high
  pub record Lower (t : Drawn) (p : ℕ) : Type 0 where
    pub start : ℕ
    pub tree : Drawn
    pub lies : Lies start tree
    pub at : root_from start tree ≡ p
    pub less : height tree < height t

  lower_in : (t : Drawn) (x : Field) (u : Use) (n : ℕ) (d : Child) → LiesIn u n x
      → height_in x < height t → In d (child_in u (value_from n x)) → Lower t d.at
  unfolding value_from height_in
  lower_in t (kept v) u n d l f m =
      absurd (none_in (subst (λ (cs : List Child). In d cs) (kept_by v l.fits refl) m))
  lower_in t (child s) u n d l f m =
      let q = child_in_lem l in
      let c = q.names.names (root_from n s) q.positive in
      record { start = n; tree = s; lies = q.lies; at = one (subst (λ (cs : List Child). In d cs) c m); less = f }
    where
      one : {k x : Child} → In k (x ∷ []) → x.at ≡ k.at
      one In.first = refl
      one (In.later m) = absurd (none_in m)

  pub lower : (t : Drawn) (n : ℕ) → Lies n t → (d : Child)
      → In d (children (frame_at Fs (root_from n t))) → Lower t d.at
  unfolding root_from height children
  lower (node h a b c) n l d m =
      let q = parts l in
      let A = child_in (uses (kind_of (h / 16 ^ 2))).a (value_from n a) in
      let B = child_in (uses (kind_of (h / 16 ^ 2))).b (value_from (n + size_in a) b) in
      let C = child_in (uses (kind_of (h / 16 ^ 2))).c (value_from (n + size_in a + size_in b) c) in
      let k : In d ((A ++ B) ++ C) = subst (λ (g : Frame). In d (children g)) q.frame m in
      ⊎_elim
      (λ y. ⊎_elim (λ z. lower_in (node h a b c) a (uses (kind_of (h / 16 ^ 2))).a n d q.first (omega arith) z) (λ z. lower_in (node h a b c) b (uses (kind_of (h / 16 ^ 2))).b (n + size_in a) d q.second (omega arith) z) (in_either A y))
      (λ y. lower_in (node h a b c) c (uses (kind_of (h / 16 ^ 2))).c (n + size_in a + size_in b) d q.third (omega arith) y)
      (in_either (A ++ B) k)

  -- ---- depths, where every line has its spot
  record Stands (j d : ℕ) : Type 0 where
    start : ℕ
    tree : Drawn
    lies : Lies start tree
    at : root_from start tree ≡ j
    least : height tree + d ≤ levels

  stands : ((p : ℕ) → p < length ws → Spot p) → {j d : ℕ} → Depth Fs j d → Stands j d
  stands spot (Depth.body {i = i} l k) =
      let n = frames_length ws in
      let s = spot i (omega arith) in
      let m = subst (λ (x : ℕ). In (record { class = Class.Statement; at = (frame_at Fs i).a }) (children (frame_at Fs x))) (sym s.at) (in_body (frame_at Fs i) k) in
      let q = lower s.tree s.start s.lies (record { class = Class.Statement; at = (frame_at Fs i).a }) m in
      let f = s.flat in
      let g = q.less in
      record { start = q.start; tree = q.tree; lies = q.lies; at = q.at; least = omega arith }
  stands spot (Depth.child {i = i} {c = c} d m) =
      let s = stands spot d in
      let q = lower s.tree s.start s.lies c (subst (λ (x : ℕ). In c (children (frame_at Fs x))) (sym s.at) m) in
      let f = s.least in
      let g = q.less in
      record { start = q.start; tree = q.tree; lies = q.lies; at = q.at; least = omega arith }

  some_height : (t : Drawn) → 0 < height t
  unfolding height
  some_height (node h a b c) = omega arith

  pub depth_most : ((p : ℕ) → p < length ws → Spot p) → (j d : ℕ) → Depth Fs j d → d ≤ 24
  depth_most spot j d h =
      let s = stands spot h in
      let l = s.least in
      let p = some_height s.tree in
      omega arith

  -- ---- the trees of a file: from n on
  all_spots : {m : ℕ} {ts : List Drawn} → Ranked m ts → All (λ (t : Drawn). height t ≤ levels) ts
      → (n : ℕ) (pre : List ℕ) → length pre ≡ n → ws ≡ pre ++ lined_all n ts → 0 < n
      → n + sizes ts ≤ 16 ^ 4 → (p : ℕ) → n ≤ p → p < n + sizes ts → Spot p
  unfolding lined_all sizes
  all_spots Ranked.done h n pre e w z s p x y = absurd (omega arith)
  all_spots (Ranked.more {t = t} {ts = ts} a b f k) (All.more g gs) n pre e w z s p x y =
      let l = lined-length n t in
      let q : length (pre ++ lined n t) ≡ n + size t = simp length-append (omega arith) in
      by (ltb p (n + size t)) refl
      (λ u. spots t n (record { pre = pre; after = lined_all (n + size t) ts; len = e; same = w; fits = f; room = omega arith; begin = λ _. z }) (Up.top b) g p x u)
      (λ u. all_spots k gs (n + size t) (pre ++ lined n t) q (w ∙ simp append_assoc) (omega arith) (omega arith) p u (omega arith))
    where
      by : {n : ℕ} (r : Bool) → ltb p n ≡ r → (p < n → Spot p) → (n ≤ p → Spot p) → Spot p
      by {n} true e u v = u (ltb-true p n e)
      by {n} false e u v = v (ltb-false p n e)

  pub whole_spots : {m : ℕ} {t : Drawn} {ts : List Drawn} → Ranked m (t ∷ ts)
      → All (λ (t : Drawn). height t ≤ levels) (t ∷ ts) → size t ≡ 1 → ws ≡ lined_all 0 (t ∷ ts)
      → sizes (t ∷ ts) ≤ 16 ^ 4 → (p : ℕ) → p < sizes (t ∷ ts) → Spot p
  unfolding lined_all sizes
  whole_spots {t = t} {ts = ts} (Ranked.more a b f k) (All.more g gs) one w s p y =
      let l = lined-length 0 t in
      by (ltb p (0 + size t)) refl
      (λ u. spots t 0 (record { pre = []; after = lined_all (0 + size t) ts; len = refl; same = w; fits = f; room = omega arith; begin = λ q. absurd (omega arith) }) (Up.top b) g p (omega arith) u)
      (λ u. all_spots k gs (0 + size t) (lined 0 t) (omega arith) w (omega arith) (omega arith) p u (omega arith))
    where
      by : {n : ℕ} (r : Bool) → ltb p n ≡ r → (p < n → Spot p) → (n ≤ p → Spot p) → Spot p
      by {n} true e u v = u (ltb-true p n e)
      by {n} false e u v = v (ltb-false p n e)

  -- ---- so no line has a fault of the order of its children, is left over or too deep
  module _ (spot : (p : ℕ) → p < length ws → Spot p) where
    pub no_order : (j : ℕ) → j < length Fs → ((lo : ℕ) → Tree Fs lo j → ⊥) → ⊥
    no_order j l h =
        let n = frames_length ws in
        let s = spot j (omega arith) in
        h s.start (subst (Tree Fs s.start) s.at (tree_of s.tree s.start s.lies))

    pub no_leftover : (j : ℕ) → j < length Fs → has_class (class_of (frame_at Fs j).kind) ≡ true
        → ((i : ℕ) → i < length Fs → has_child j (frame_at Fs i) ≡ false) → ⊥
    no_leftover j l c h = let n = frames_length ws in let s = spot j (omega arith) in go s s.up
      where
        go : (s : Spot j) → Up ws j s.tree → ⊥
        go s (Up.top r) =
            root_class (tree_kind s.tree) r (ap (λ (k : Kind). has_class (class_of k)) (sym (root_kind s.tree s.start s.lies) ∙ ap (λ (k : ℕ). (frame_at Fs k).kind) s.at) ∙ c)
        go s (Up.inner i k e) = let n = frames_length ws in true≢false (sym e ∙ h i (omega arith))
