-- The roots among the lines of trees are the trees' roots. Assumes nothing.
use mathlib.Core.Path.{◌≡◌, refl, sym, ap, ap₂, ◌∙◌}
use mathlib.Core.Bool.{Bool, true, false}
use mathlib.Core.List.{List, [], ◌∷◌, ◌++◌, append_assoc, append-nil, map}
use Prim.Native.Nat.{ℕ, zero, suc, ◌+◌, ◌/◌, ◌^◌, ◌≤◌, ◌<◌}
use native.Mathlib.Omega.{arith}
use lib.Dec.{eqb, ltb}
use lib.ListN.{length, length-append}
use borrow.Author.Tests.{ne_eqb, eqb-true, eqb-false, lt-ltb, le-ltb, ltb-true, ltb-false}
use Rattle.basics.specs.If.{when◌then◌else◌}
use Rattle.basics.specs.Members.{All}
use Rattle.basics.proofs.Ifs.{if_yes, if_no}
use Rattle.language.specs.Kinds.{kind_of}
use Rattle.language.specs.declared.kind.Use.{Use}
use Rattle.language.specs.declared.frame.Frame.{Frame}
use Rattle.text.specs.Frames.{frame_of_word, frames_of}
use Rattle.text.proofs.FrameWords.{frames_length}
use Rattle.drawing.specs.Drawings.{Drawn, Field, size, size_in, root_from}
use Rattle.drawing.specs.Drawings.{root_line, lined, lined_in, lined_all, drawn, rank}
use Rattle.drawing.specs.Drawings.{ranks, levels, numbered, roots_to, drawing, laid_out}
use Rattle.drawing.proofs.Heights.{height}
use Rattle.drawing.proofs.Lines.{word_frame}
use Rattle.drawing.proofs.Fields.{class_rank, names_class}
use Rattle.drawing.proofs.Back.{tree_kind, tree_rank, Fits, FitsIn, lined-length}
use Rattle.drawing.proofs.Back.{lined_in-length, value_fits, read_back}
use Rattle.drawing.proofs.Roots.{rank_of}

pub numbered_append : (r i : ℕ) (xs ys : List Frame)
    → numbered r i (xs ++ ys) ≡ numbered r i xs ++ numbered r (i + length xs) ys
unfolding numbered
numbered_append r i [] ys = let z : i ≡ i + 0 = omega arith in ap (λ (k : ℕ). numbered r k ys) z
numbered_append r i (x ∷ xs) ys =
    let z : suc i + length xs ≡ i + suc (length xs) = omega arith in
    ap (λ (t : List ℕ). (when eqb (rank_of x) r then i ∷ [] else []) ++ t) (numbered_append r (suc i) xs ys ∙ ap (λ (k : ℕ). numbered r (suc i) xs ++ numbered r k ys) z)
    ∙ sym (append_assoc (when eqb (rank_of x) r then i ∷ [] else []) (numbered r (suc i) xs) (numbered r (i + suc (length xs)) ys))

frames_append : (xs ys : List ℕ) → frames_of (xs ++ ys) ≡ frames_of xs ++ frames_of ys
frames_append [] ys = refl
frames_append (x ∷ xs) ys = ap (λ (t : List Frame). frame_of_word x ∷ t) (frames_append xs ys)

-- of lines, the second part of which stands from m on
pub lines_append : (r i m : ℕ) (xs ys : List ℕ) → i + length xs ≡ m
    → numbered r i (frames_of (xs ++ ys)) ≡ numbered r i (frames_of xs) ++ numbered r m (frames_of ys)
lines_append r i m xs ys e =
    let n = frames_length xs in
    let q : i + length (frames_of xs) ≡ m = omega arith in
    ap (numbered r i) (frames_append xs ys) ∙ numbered_append r i (frames_of xs) (frames_of ys) ∙ ap (λ (k : ℕ). numbered r i (frames_of xs) ++ numbered r k (frames_of ys)) q

-- the root of a tree, where it has the rank r
abbrev pub root_of : ℕ → ℕ → Drawn → List ℕ
root_of r n t = when eqb (tree_rank t) r then root_from n t ∷ [] else []

mutual
  unfolding lined size root_from numbered

  pub tree_roots : {t : Drawn} → Fits t → (r n : ℕ) → r < ranks → n + size t ≤ 16 ^ 4
      → numbered r n (frames_of (lined n t)) ≡ root_of r n t
  tree_roots (Fits.fits {h} {a} {b} {c} lh fa fb fc) r n l s =
      let A = lined_in n a in
      let B = lined_in (n + size_in a) b in
      let C = lined_in (n + size_in a + size_in b) c in
      let x : ℕ = root_line n h a b c in
      let la = lined_in-length n a in
      let lb = lined_in-length (n + size_in a) b in
      let lc = lined_in-length (n + size_in a + size_in b) c in
      let va = value_fits n fa (omega arith) in
      let vb = value_fits (n + size_in a) fb (omega arith) in
      let vc = value_fits (n + size_in a + size_in b) fc (omega arith) in
      let m : ℕ = n + (size_in a + size_in b + size_in c) in
      let fr : rank_of (frame_of_word x) ≡ rank (kind_of (h / 16 ^ 2)) = ap rank_of (word_frame h _ _ _ lh va vb vc) in
      lines_append r n (n + size_in a) A (B ++ (C ++ (x ∷ []))) (omega arith)
      ∙ ap₂ (λ (p q : List ℕ). p ++ q) (field_roots fa r n l (omega arith))
      (lines_append r (n + size_in a) (n + size_in a + size_in b) B (C ++ (x ∷ [])) (omega arith)
      ∙ ap₂ (λ (p q : List ℕ). p ++ q) (field_roots fb r (n + size_in a) l (omega arith))
      (lines_append r (n + size_in a + size_in b) m C (x ∷ []) (omega arith)
      ∙ ap₂ (λ (p q : List ℕ). p ++ q) (field_roots fc r (n + size_in a + size_in b) l (omega arith))
      (append-nil (when eqb (rank_of (frame_of_word x)) r then m ∷ [] else []) ∙ ap (λ (k : ℕ). when eqb k r then m ∷ [] else []) fr)))

  field_roots : {u : Use} {x : Field} → FitsIn u x → (r n : ℕ) → r < ranks → n + size_in x ≤ 16 ^ 4
      → numbered r n (frames_of (lined_in n x)) ≡ []
  field_roots (FitsIn.keeps {v = v} l e) r n k s = refl
  field_roots (FitsIn.names {t = t} m o f) r n k s =
      tree_roots f r n k s
      ∙ if_no (root_from n t ∷ []) [] (ne_eqb (tree_rank t) r (λ e. (let z = class_rank (tree_kind t) m.class o (names_class m) in omega arith)))

-- ---- the trees of a file: by rank
unfoldable pub sizes : List Drawn → ℕ
sizes [] = 0
sizes (t ∷ ts) = size t + sizes ts

pub data Ranked : ℕ → List Drawn → Type 0 where
  done : {m : ℕ} → Ranked m []
  more : {m : ℕ} {t : Drawn} {ts : List Drawn} → m ≤ tree_rank t → tree_rank t < ranks → Fits t
      → Ranked (tree_rank t) ts → Ranked m (t ∷ ts)

-- the roots of rank r, of a rank below r, and all
unfoldable of_rank : ℕ → ℕ → List Drawn → List ℕ
of_rank r n [] = []
of_rank r n (t ∷ ts) = root_of r n t ++ of_rank r (n + size t) ts

unfoldable under : ℕ → ℕ → List Drawn → List ℕ
under r n [] = []
under r n (t ∷ ts) =
    (when ltb (tree_rank t) r then root_from n t ∷ [] else []) ++ under r (n + size t) ts

unfoldable pub roots_from : ℕ → List Drawn → List ℕ
roots_from n [] = []
roots_from n (t ∷ ts) = root_from n t ∷ roots_from (n + size t) ts

pub all_lined : (n : ℕ) (ts : List Drawn) → length (lined_all n ts) ≡ sizes ts
unfolding lined_all sizes
all_lined n [] = refl
all_lined n (t ∷ ts) =
    let a = lined-length n t in
    let b = all_lined (n + size t) ts in
    simp length-append (omega arith)

all_roots : {m : ℕ} {ts : List Drawn} → Ranked m ts → (r n : ℕ) → r < ranks → n + sizes ts ≤ 16 ^ 4
    → numbered r n (frames_of (lined_all n ts)) ≡ of_rank r n ts
unfolding lined_all sizes of_rank numbered
all_roots Ranked.done r n l s = refl
all_roots (Ranked.more {t = t} {ts = ts} a b f k) r n l s =
    let x = lined-length n t in
    lines_append r n (n + size t) (lined n t) (lined_all (n + size t) ts) (omega arith)
    ∙ ap₂ (λ (p q : List ℕ). p ++ q) (tree_roots f r n l (omega arith)) (all_roots k r (n + size t) l (omega arith))

none_under : {m : ℕ} {ts : List Drawn} → Ranked m ts → (r n : ℕ) → r ≤ m → under r n ts ≡ []
unfolding under
none_under Ranked.done r n l = refl
none_under (Ranked.more {t = t} {ts = ts} a b f k) r n l =
    ap₂ (λ (p q : List ℕ). p ++ q) (if_no (root_from n t ∷ []) [] (le-ltb (tree_rank t) r (omega arith))) (none_under k r (n + size t) (omega arith))

merge : {m : ℕ} {ts : List Drawn} → Ranked m ts → (r n : ℕ)
    → under r n ts ++ of_rank r n ts ≡ under (suc r) n ts
unfolding under of_rank
merge Ranked.done r n = refl
merge (Ranked.more {t = t} {ts = ts} a b f k) r n =
    go (ltb (tree_rank t) r) refl (eqb (tree_rank t) r) refl (merge k r (n + size t))
  where
    N : ℕ
    N = n + size t

    go : (x : Bool) → ltb (tree_rank t) r ≡ x → (y : Bool) → eqb (tree_rank t) r ≡ y
        → under r (n + size t) ts ++ of_rank r (n + size t) ts ≡ under (suc r) (n + size t) ts
        → ((when ltb (tree_rank t) r then root_from n t ∷ [] else []) ++ under r (n + size t) ts) ++ ((when eqb (tree_rank t) r then root_from n t ∷ [] else []) ++ of_rank r (n + size t) ts) ≡ (when ltb (tree_rank t) (suc r) then root_from n t ∷ [] else []) ++ under (suc r) (n + size t) ts
    go true x y z h =
        let p = ltb-true (tree_rank t) r x in
        rw (if_yes (root_from n t ∷ []) [] x, if_no (root_from n t ∷ []) [] (ne_eqb (tree_rank t) r (λ e. omega arith)), if_yes (root_from n t ∷ []) [] (lt-ltb (tree_rank t) (suc r) (omega arith))) (ap (λ (q : List ℕ). root_from n t ∷ q) h)
    go false x true z h =
        let e = eqb-true (tree_rank t) r z in
        let w = none_under k r (n + size t) (omega arith) in
        rw (if_no (root_from n t ∷ []) [] x, if_yes (root_from n t ∷ []) [] z, if_yes (root_from n t ∷ []) [] (lt-ltb (tree_rank t) (suc r) (omega arith)), w) (ap (λ (q : List ℕ). root_from n t ∷ q) (ap (λ (q : List ℕ). q ++ of_rank r (n + size t) ts) (sym w) ∙ h))
    go false x false z h =
        let p = ltb-false (tree_rank t) r x in
        let q = eqb-false (tree_rank t) r z in
        rw (if_no (root_from n t ∷ []) [] x, if_no (root_from n t ∷ []) [] z, if_no (root_from n t ∷ []) [] (le-ltb (tree_rank t) (suc r) (omega (arith, q)))) h

roots_under : {m : ℕ} {ts : List Drawn} → Ranked m ts → (r : ℕ) → r ≤ ranks → sizes ts ≤ 16 ^ 4
    → roots_to r (frames_of (lined_all 0 ts)) ≡ under r 0 ts
unfolding roots_to
roots_under k zero l s = sym (none_under k 0 0 (omega arith))
roots_under {ts = ts} k (suc r) l s =
    ap₂ (λ (p q : List ℕ). p ++ q) (roots_under k r (omega arith) s) (all_roots k r 0 (omega arith) (omega arith))
    ∙ merge k r 0

under_all : {m : ℕ} {ts : List Drawn} → Ranked m ts → (n : ℕ) → under ranks n ts ≡ roots_from n ts
unfolding under roots_from
under_all Ranked.done n = refl
under_all (Ranked.more {t = t} {ts = ts} a b f k) n =
    ap₂ (λ (p q : List ℕ). p ++ q) (if_yes (root_from n t ∷ []) [] (lt-ltb (tree_rank t) ranks b)) (under_all k (n + size t))

-- ---- trees, laid out and drawn again
all_back : {m : ℕ} {ts : List Drawn} → Ranked m ts → All (λ (t : Drawn). height t ≤ levels) ts
    → (n : ℕ) (pre ws : List ℕ) → length pre ≡ n → ws ≡ pre ++ lined_all n ts → 0 < n
    → n + sizes ts ≤ 16 ^ 4 → map (λ i. drawn levels ws i) (roots_from n ts) ≡ ts
unfolding lined_all sizes roots_from
all_back Ranked.done h n pre ws e w z s = refl
all_back (Ranked.more {t = t} {ts = ts} a b f k) (All.more x xs) n pre ws e w z s =
    let l = lined-length n t in
    let p : length (pre ++ lined n t) ≡ n + size t = simp length-append (omega arith) in
    ap₂ (λ (y : Drawn) (ys : List Drawn). y ∷ ys) (read_back f levels n pre (lined_all (n + size t) ts) ws e w x (λ q. z) (omega arith))
    (all_back k xs (n + size t) (pre ++ lined n t) ws p (w ∙ simp append_assoc) (omega arith) (omega arith))

-- the first tree is one line: a header
pub drawing_back : {m : ℕ} {t : Drawn} {ts : List Drawn} → Ranked m (t ∷ ts)
    → All (λ (t : Drawn). height t ≤ levels) (t ∷ ts) → size t ≡ 1 → sizes (t ∷ ts) ≤ 16 ^ 4
    → drawing (laid_out (t ∷ ts)) ≡ t ∷ ts
unfolding drawing laid_out lined_all sizes roots_from
drawing_back {t = t} {ts = ts} (Ranked.more a b f k) (All.more x xs) one s =
    let whole : Ranked 0 (t ∷ ts) = Ranked.more {m = 0} {t = t} (omega arith) b f k in
    let ws : List ℕ = lined_all 0 (t ∷ ts) in
    let l = lined-length 0 t in
    ap (λ (is : List ℕ). map (λ i. drawn levels ws i) is) (roots_under whole ranks (omega arith) s ∙ under_all whole 0)
    ∙ ap₂ (λ (y : Drawn) (ys : List Drawn). y ∷ ys) (read_back f levels 0 [] (lined_all (0 + size t) ts) ws refl refl x (λ q. absurd (omega arith)) (omega arith))
    (all_back k xs (0 + size t) (lined 0 t) ws (omega arith) refl (omega arith) (omega arith))

-- ---- every line's number has 16 digits
small_append : {xs ys : List ℕ} → All (λ (w : ℕ). w < 16 ^ 16) xs → All (λ (w : ℕ). w < 16 ^ 16) ys
    → All (λ (w : ℕ). w < 16 ^ 16) (xs ++ ys)
small_append All.none b = b
small_append (All.more p a) b = All.more p (small_append a b)

mutual
  unfolding lined size

  tree_small : {t : Drawn} → Fits t → (n : ℕ) → n + size t ≤ 16 ^ 4
      → All (λ (w : ℕ). w < 16 ^ 16) (lined n t)
  tree_small (Fits.fits {h} {a} {b} {c} lh fa fb fc) n s =
      let va = value_fits n fa (omega arith) in
      let vb = value_fits (n + size_in a) fb (omega arith) in
      let vc = value_fits (n + size_in a + size_in b) fc (omega arith) in
      let l : root_line n h a b c < 16 ^ 16 = omega arith in
      small_append (field_small fa n (omega arith)) (small_append (field_small fb (n + size_in a) (omega arith)) (small_append (field_small fc (n + size_in a + size_in b) (omega arith)) (All.more l All.none)))

  field_small : {u : Use} {x : Field} → FitsIn u x → (n : ℕ) → n + size_in x ≤ 16 ^ 4
      → All (λ (w : ℕ). w < 16 ^ 16) (lined_in n x)
  field_small (FitsIn.keeps l e) n s = All.none
  field_small (FitsIn.names {t = t} m o f) n s = tree_small f n s

pub all_small : {m : ℕ} {ts : List Drawn} → Ranked m ts → (n : ℕ) → n + sizes ts ≤ 16 ^ 4
    → All (λ (w : ℕ). w < 16 ^ 16) (lined_all n ts)
unfolding lined_all sizes
all_small Ranked.done n s = All.none
all_small (Ranked.more {t = t} {ts = ts} a b f k) n s =
    small_append (tree_small f n (omega arith)) (all_small k (n + size t) (omega arith))
