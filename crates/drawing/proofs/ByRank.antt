-- In lines laid out from trees by rank no declaration stands after a frame of a later kind.
-- Assumes nothing.
use mathlib.Core.Path.{◌≡◌, refl, ap, ◌∙◌}
use mathlib.Core.Logic.{◌⊎◌, inl, inr, ⊎_elim}
use mathlib.Core.Bool.{Bool, true, false}
use mathlib.Core.List.{List, [], ◌∷◌, ◌++◌, append_assoc}
use Prim.Native.Nat.{ℕ, ◌+◌, ◌/◌, ◌^◌, ◌≤◌, ◌<◌}
use native.Mathlib.Omega.{arith}
use native.Mathlib.Decide.{ℕ_discrete}
use lib.Dec.{ltb}
use lib.ListN.{length, length-append}
use borrow.Author.Tests.{ltb-true, ltb-false}
use Rattle.language.specs.Kinds.{declarations, kind_of, class_of, uses, child_in}
use Rattle.language.specs.declared.kind.Kind.{Kind}
use Rattle.language.specs.declared.kind.DeclarationKind.TheVariants.{Shared, Event, Link}
use Rattle.language.specs.declared.kind.Kind.TheVariants.{Header, Declared, Module, Statement}
use Rattle.language.specs.declared.kind.Kind.TheVariants.{Expression, Unknown}
use Rattle.language.specs.declared.kind.Use.{Use}
use Rattle.language.specs.declared.frame.Frame.{Frame}
use Rattle.text.specs.Frames.{frames_of}
use Rattle.program.specs.Trees.{frame_at}
use Rattle.drawing.specs.Drawings.{Drawn, Field, size, size_in, root_from}
use Rattle.drawing.specs.Drawings.{lined, lined_all, rank, ranks}
use Rattle.drawing.proofs.Fields.{Names, class_rank}
use Rattle.drawing.proofs.Back.{tree_rank, Fits, FitsIn, lined-length, root_inside}
use Rattle.drawing.proofs.Back.{some_size}
use Rattle.drawing.proofs.Roots.{rank_of}
use Rattle.drawing.proofs.Tiles.{tree_class}
use Rattle.drawing.proofs.Shapes.{Ranked, sizes}
use Rattle.drawing.proofs.Output.{Lies, tree_of, root_kind}

-- ---- a header or a declaration is one line
no_names : {u : Use} → Names u → child_in u 1 ≡ [] → ⊥
no_names n e = let q = n.names 1 (omega arith) in let z : ◌≡◌ {A = ℕ} 0 1 = cc in omega arith

kept_size : {u : Use} {x : Field} → FitsIn u x → child_in u 1 ≡ [] → size_in x ≡ 0
unfolding size_in
kept_size (FitsIn.keeps l e) q = refl
kept_size (FitsIn.names n c f) q = absurd (no_names n q)

plain_uses : (k : Kind) → rank k ≤ declarations
    → (child_in (uses k).a 1 ≡ []) × (child_in (uses k).b 1 ≡ []) × (child_in (uses k).c 1 ≡ [])
plain_uses Header l = (refl, refl, refl)
plain_uses (Declared Shared) l = (refl, refl, refl)
plain_uses (Declared Event) l = (refl, refl, refl)
plain_uses (Declared Link) l = (refl, refl, refl)
plain_uses Module l = absurd (omega arith)
plain_uses (Statement k) l = absurd (omega arith)
plain_uses (Expression k) l = absurd (omega arith)
plain_uses Unknown l = absurd (omega arith)

pub plain_size : {t : Drawn} → Fits t → tree_rank t ≤ declarations → size t ≡ 1
unfolding size
plain_size (Fits.fits {h} lh fa fb fc) l =
    let u = plain_uses (kind_of (h / 16 ^ 2)) l in
    let a = kept_size fa u.0 in
    let b = kept_size fb u.1 in
    let c = kept_size fc u.2 in
    omega arith

module _ (ws : List ℕ) where
  abbrev Fs : List Frame
  Fs = frames_of ws

  -- a line of a tree is its root, or has no rank
  in_tree : (t : Drawn) (n : ℕ) → Lies ws n t → (p : ℕ) → n ≤ p → p < n + size t
      → (p ≡ root_from n t) ⊎ (ranks ≤ rank_of (frame_at Fs p))
  in_tree t n l p x y = go (ℕ_discrete p (root_from n t))
    where
      go : Dec (p ≡ root_from n t) → (p ≡ root_from n t) ⊎ (ranks ≤ rank_of (frame_at Fs p))
      go (yes e) = inl e
      go (no d) =
          let r = root_inside n t in
          inr (class_rank (frame_at Fs p).kind (class_of (frame_at Fs p).kind) refl (tree_class (tree_of ws t n l) p x (omega (arith, d))))

  root_is : (t : Drawn) (n : ℕ) → Lies ws n t → rank_of (frame_at Fs (root_from n t)) ≡ tree_rank t
  root_is t n l = ap rank (root_kind ws t n l)

  pub record Begun (n : ℕ) (ts : List Drawn) : Type 0 where
    pub pre : List ℕ
    pub len : length pre ≡ n
    pub same : ws ≡ pre ++ lined_all n ts
    pub room : n + sizes ts ≤ 16 ^ 4
    pub first : (0 < n) ⊎ ((t : Drawn) (us : List Drawn) → ts ≡ t ∷ us → size t ≡ 1)

  begun_lies : {n : ℕ} {t : Drawn} {ts : List Drawn} → Fits t → Begun n (t ∷ ts) → Lies ws n t
  unfolding lined_all sizes
  begun_lies {n} {t} {ts} f b =
      let r = b.room in
      record { pre = b.pre; after = lined_all (n + size t) ts; len = b.len; same = b.same; fits = f; room = omega arith; begin = λ q. ⊎_elim (λ z. z) (λ g. (let e = g t ts refl in absurd (omega arith))) b.first }

  begun_next : {n : ℕ} {t : Drawn} {ts : List Drawn} → Begun n (t ∷ ts) → Begun (n + size t) ts
  unfolding lined_all sizes
  begun_next {n} {t} {ts} b =
      let l = lined-length n t in
      let e = b.len in
      let r = b.room in
      let s = some_size t in
      record { pre = b.pre ++ lined n t; len = simp length-append (omega arith); same = b.same ∙ simp append_assoc; room = omega arith; first = inl (omega arith) }

  -- the lines of trees of ranks from m on have such ranks
  low : {m n : ℕ} {ts : List Drawn} → Ranked m ts → Begun n ts → (p : ℕ) → n ≤ p → p < n + sizes ts
      → m ≤ ranks → m ≤ rank_of (frame_at Fs p)
  unfolding sizes
  low Ranked.done b p x y z = absurd (omega arith)
  low {m} {n} (Ranked.more {t = t} {ts = ts} a c f k) b p x y z =
      go (ltb p (n + size t)) refl (λ u. low k (begun_next b) p u (omega arith) (omega arith))
    where
      go : (r : Bool) → ltb p (n + size t) ≡ r
          → (n + size t ≤ p → tree_rank t ≤ rank_of (frame_at Fs p)) → m ≤ rank_of (frame_at Fs p)
      go true e rec =
          ⊎_elim (λ q. (let s = root_is t n (begun_lies f b) in let w = ap (λ (i : ℕ). rank_of (frame_at Fs i)) q in omega arith)) (λ q. omega arith) (in_tree t n (begun_lies f b) p x (ltb-true p (n + size t) e))
      go false e rec = let w = rec (ltb-false p (n + size t) e) in omega arith

  -- before a header or a declaration stand only such of its rank or a lower one
  pub before : {m n : ℕ} {ts : List Drawn} → Ranked m ts → Begun n ts → (i j : ℕ) → n ≤ i → i < j
      → j < n + sizes ts → rank_of (frame_at Fs j) ≤ declarations
      → rank_of (frame_at Fs i) ≤ rank_of (frame_at Fs j)
  unfolding sizes
  before Ranked.done b i j x y z r = absurd (omega arith)
  before {m} {n} (Ranked.more {t = t} {ts = ts} a c f k) b i j x y z r =
      go (ltb i (n + size t)) refl (ltb j (n + size t)) refl (λ u. before k (begun_next b) i j u y (omega arith) r)
    where
      go : (p : Bool) → ltb i (n + size t) ≡ p → (q : Bool) → ltb j (n + size t) ≡ q
          → (n + size t ≤ i → rank_of (frame_at Fs i) ≤ rank_of (frame_at Fs j))
          → rank_of (frame_at Fs i) ≤ rank_of (frame_at Fs j)
      go false e q d rec = rec (ltb-false i (n + size t) e)
      go true e false d rec =
          let l = begun_lies f b in
          let w = low k (begun_next b) j (ltb-false j (n + size t) d) (omega arith) (omega arith) in
          let s = plain_size f (omega arith) in
          let u = ltb-true i (n + size t) e in
          let v = root_inside n t in
          let o : i ≡ root_from n t = omega arith in
          let g = root_is t n l in
          let h = ap (λ (i : ℕ). rank_of (frame_at Fs i)) o in
          omega arith
      go true e true d rec =
          let l = begun_lies f b in
          let u = ltb-true j (n + size t) d in
          let v = root_inside n t in
          ⊎_elim
          (λ o. (let g = root_is t n l in let h = ap (λ (i : ℕ). rank_of (frame_at Fs i)) o in let s = plain_size f (omega arith) in absurd (omega arith)))
          (λ o. absurd (omega arith))
          (in_tree t n l j (omega arith) u)
