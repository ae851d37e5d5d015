-- The lines of a tree, wherever they stand, are drawn as the tree. Assumes nothing.
use mathlib.Core.Path.{◌≡◌, refl, ap, ap₂, ◌∙◌}
use mathlib.Core.List.{List, [], ◌∷◌, ◌++◌, append_assoc}
use Prim.Native.Nat.{ℕ, zero, suc, ◌+◌, ◌/◌, ◌^◌, ◌≤◌, ◌<◌}
use native.Mathlib.Omega.{arith}
use lib.ListN.{length, length-append, get_or}
use lib.Seq.{get_or_at}
use Rattle.language.specs.Kinds.{kind_of, class_of, uses, child_in}
use Rattle.language.specs.declared.kind.Kind.{Kind}
use Rattle.language.specs.declared.kind.Use.{Use}
use Rattle.language.specs.declared.frame.Frame.{Frame}
use Rattle.text.specs.Frames.{frame_of_word}
use Rattle.drawing.specs.Drawings.{head_of, Drawn, Field, node, kept, child, size}
use Rattle.drawing.specs.Drawings.{size_in, field_with, node_with, drawn, root_from, value_from}
use Rattle.drawing.specs.Drawings.{root_line, lined, lined_in, rank}
use Rattle.drawing.proofs.Heights.{height, height_in}
use Rattle.drawing.proofs.Lines.{word_head, word_frame}
use Rattle.drawing.proofs.Fields.{Names}

-- the kind of a tree's root, and its rank
abbrev pub tree_kind : Drawn → Kind
tree_kind (node h a b c) = kind_of (h / 16 ^ 2)

abbrev pub tree_rank : Drawn → ℕ
tree_rank t = rank (tree_kind t)

-- ---- a tree whose fields hold children where its lines' kinds have them
mutual
  pub data Fits : Drawn → Type 0 where
    fits : {h : ℕ} {a b c : Field}
        → h < 16 ^ 4
        → FitsIn (uses (kind_of (h / 16 ^ 2))).a a
        → FitsIn (uses (kind_of (h / 16 ^ 2))).b b
        → FitsIn (uses (kind_of (h / 16 ^ 2))).c c
        → Fits (node h a b c)

  pub data FitsIn : Use → Field → Type 0 where
    keeps : {u : Use} {v : ℕ} → v < 16 ^ 4 → child_in u v ≡ [] → FitsIn u (kept v)
    names : {u : Use} {t : Drawn} (n : Names u) → class_of (tree_kind t) ≡ n.class → Fits t
        → FitsIn u (child t)

-- ---- lengths
mutual
  unfolding lined size

  pub lined-length : (n : ℕ) (t : Drawn) → length (lined n t) ≡ size t
  lined-length n (node h a b c) =
      let x = lined_in-length n a in
      let y = lined_in-length (n + size_in a) b in
      let z = lined_in-length (n + size_in a + size_in b) c in
      simp length-append (omega arith)

  pub lined_in-length : (n : ℕ) (x : Field) → length (lined_in n x) ≡ size_in x
  lined_in-length n (kept v) = refl
  lined_in-length n (child t) = lined-length n t

pub root_inside : (n : ℕ) (t : Drawn) → suc (root_from n t) ≡ n + size t
unfolding root_from size
root_inside n (node h a b c) = omega arith

pub some_size : (t : Drawn) → 0 < size t
unfolding size
some_size (node h a b c) = omega arith

pub node_same : (h : ℕ) {a b c x y z : Field} → a ≡ x → b ≡ y → c ≡ z → node h a b c ≡ node h x y z
node_same h p q r = cc

pub value_fits : (n : ℕ) {u : Use} {x : Field} → FitsIn u x → n + size_in x ≤ 16 ^ 4
    → value_from n x < 16 ^ 4
unfolding value_from size
value_fits n (FitsIn.keeps l e) h = l
value_fits n (FitsIn.names {t = t} m o f) h = let r = root_inside n t in omega arith

-- ---- read back
mutual
  unfolding lined size height root_from value_from drawn

  pub read_back : {t : Drawn} → Fits t → (d n : ℕ) (pre after ws : List ℕ) → length pre ≡ n
      → ws ≡ pre ++ (lined n t ++ after) → height t ≤ d → (1 < size t → 0 < n) → n + size t ≤ 16 ^ 4
      → drawn d ws (root_from n t) ≡ t
  read_back (Fits.fits {h} {a} {b} {c} lh fa fb fc) zero n pre after ws e w l z s =
      absurd (omega arith)
  read_back (Fits.fits {h} {a} {b} {c} lh fa fb fc) (suc d) n pre after ws e w l z s =
      let A = lined_in n a in
      let B = lined_in (n + size_in a) b in
      let C = lined_in (n + size_in a + size_in b) c in
      let x : ℕ = root_line n h a b c in
      let la = lined_in-length n a in
      let lb = lined_in-length (n + size_in a) b in
      let lc = lined_in-length (n + size_in a + size_in b) c in
      let pa : length (pre ++ A) ≡ n + size_in a = simp length-append (omega arith) in
      let pb : length (pre ++ (A ++ B)) ≡ n + size_in a + size_in b = simp length-append (omega arith) in
      let pc : length (pre ++ (A ++ (B ++ C))) ≡ n + (size_in a + size_in b + size_in c) = simp length-append (omega arith) in
      let wa : ws ≡ pre ++ (A ++ ((B ++ (C ++ (x ∷ []))) ++ after)) = w ∙ simp append_assoc in
      let wb : ws ≡ (pre ++ A) ++ (B ++ ((C ++ (x ∷ [])) ++ after)) = w ∙ simp append_assoc in
      let wc : ws ≡ (pre ++ (A ++ B)) ++ (C ++ (x ∷ after)) = w ∙ simp append_assoc in
      let wr : ws ≡ (pre ++ (A ++ (B ++ C))) ++ (x ∷ after) = w ∙ simp append_assoc in
      let at : get_or ws (n + (size_in a + size_in b + size_in c)) 0 ≡ x = ap (λ (l : List ℕ). get_or l (n + (size_in a + size_in b + size_in c)) 0) wr ∙ get_or_at (pre ++ (A ++ (B ++ C))) x after 0 (n + (size_in a + size_in b + size_in c)) pc in
      let va = value_fits n fa (omega arith) in
      let vb = value_fits (n + size_in a) fb (omega arith) in
      let vc = value_fits (n + size_in a + size_in b) fc (omega arith) in
      let draw : ℕ → Drawn = λ j. drawn d ws j in
      let ga = field_back fa d n pre ((B ++ (C ++ (x ∷ []))) ++ after) ws e wa (omega arith) (λ q. z (omega arith)) (omega arith) in
      let gb = field_back fb d (n + size_in a) (pre ++ A) ((C ++ (x ∷ [])) ++ after) ws pa wb (omega arith) (λ q. (let g = z (omega arith) in omega arith)) (omega arith) in
      let gc = field_back fc d (n + size_in a + size_in b) (pre ++ (A ++ B)) (x ∷ after) ws pb wc (omega arith) (λ q. (let g = z (omega arith) in omega arith)) (omega arith) in
      ap (λ (k : ℕ). node_with draw (head_of k) (frame_of_word k)) at
      ∙ ap₂ (λ (k : ℕ) (f : Frame). node_with draw k f) (word_head h _ _ _ lh va vb vc) (word_frame h _ _ _ lh va vb vc)
      ∙ node_same h ga gb gc

  field_back : {u : Use} {x : Field} → FitsIn u x → (d n : ℕ) (pre after ws : List ℕ)
      → length pre ≡ n → ws ≡ pre ++ (lined_in n x ++ after) → height_in x ≤ d
      → (0 < size_in x → 0 < n) → n + size_in x ≤ 16 ^ 4
      → field_with (λ j. drawn d ws j) (value_from n x) (child_in u (value_from n x)) ≡ x
  field_back (FitsIn.keeps {v = v} l e) d n pre after ws p w h z s =
      ap (field_with (λ j. drawn d ws j) v) e
  field_back (FitsIn.names {t = t} m o f) d n pre after ws p w h z s =
      let r = root_inside n t in
      let k = some_size t in
      let g = z k in
      ap (field_with (λ j. drawn d ws j) (root_from n t)) (m.names (root_from n t) (omega arith)) ∙ ap child (read_back f d n pre after ws p w h (λ q. g) s)
