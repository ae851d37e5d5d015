-- Refusal 6, 'order, a child of the wrong class': `first_disorder` gives the lowest frame that is no
-- tree's root. Assumes nothing.
use mathlib.Core.Bool.{Bool, true, false, ◌&&◌, true≢false}
use mathlib.Core.List.{List, [], ◌∷◌, reverse, reverse_aux, reverse-reverse}
use Rattle.std.specs.Prelude.{Option, Some, None}
use mathlib.Core.Path.{◌≡◌, refl, sym, ap, ◌∙◌}
use Prim.Native.Nat.{ℕ, suc, ◌+◌, ◌-◌, ◌≤◌, ◌<◌}
use native.Mathlib.Omega.{arith}
use lib.Dec.{leb, eqb}
use lib.ListN.{get_or, length}
use borrow.Author.Tests.{leb-true, leb-false, eqb-true, eqb-false, eq-eqb}
use Rattle.basics.proofs.Ifs.{and_true, and_false}
use Rattle.language.specs.Kinds.{Child, children, class_of}
use Rattle.language.specs.declared.kind.Class.{Class}
use Rattle.language.specs.declared.frame.Frame.{Frame}
use Rattle.program.specs.Trees.{frame_at}
use Rattle.program.specs.Inner.Children.{same_class}
use Rattle.layout.specs.Order.{Tree, Row}
use Rattle.layout.specs.Inner.Scans.{Passed, passed, row_first, first_disorder}
use Rattle.layout.proofs.Searches.{Lowest}
use Rattle.layout.proofs.Trees.{row_le, row_one, HasTree, From, from_next, from_start}

-- ---- classes
same_true : (a b : Class) → same_class a b ≡ true → a ≡ b
same_true Class.Statement Class.Statement h = refl
same_true Class.Statement Class.Expression h = absurd (true≢false (sym h))
same_true Class.Statement Class.Neither h = absurd (true≢false (sym h))
same_true Class.Expression Class.Statement h = absurd (true≢false (sym h))
same_true Class.Expression Class.Expression h = refl
same_true Class.Expression Class.Neither h = absurd (true≢false (sym h))
same_true Class.Neither Class.Statement h = absurd (true≢false (sym h))
same_true Class.Neither Class.Expression h = absurd (true≢false (sym h))
same_true Class.Neither Class.Neither h = refl

same_refl : (a : Class) → same_class a a ≡ true
same_refl Class.Statement = refl
same_refl Class.Expression = refl
same_refl Class.Neither = refl

-- ---- the frames passed
abbrev pub nobody : Passed
nobody = passed Class.Neither 0

-- they stand from the last to the first, so that frame c of i is at i - suc c: what holds of the
-- last, p, and of those before it holds of each
pub at_passed : (P : ℕ → Passed → Type 0) (i c : ℕ) (p : Passed) (ps : List Passed) → P i p
    → (c < i → P c (get_or ps (i - suc c) nobody)) → c < suc i
    → P c (get_or (p ∷ ps) (suc i - suc c) nobody)
at_passed P i c p ps last before l = go (eqb c i) refl
  where
    go : (b : Bool) → eqb c i ≡ b → P c (get_or (p ∷ ps) (suc i - suc c) nobody)
    go true e =
        let q : c ≡ i = eqb-true c i e in
        let z : suc i - suc c ≡ 0 = omega arith in
        rw (z, q) last
    go false e =
        let q : c ≡ i → ⊥ = eqb-false c i e in
        let k : c < i = omega arith in
        let z : suc i - suc c ≡ suc (i - suc c) = omega arith in
        rw z (before k)

-- ps tells of the i frames passed, each the root of a tree
data Passing (fs : List Frame) : ℕ → List Passed → Type 0 where
  start : Passing fs 0 []
  more : {i lo : ℕ} {ps : List Passed} → Passing fs i ps → Tree fs lo i
      → Passing fs (suc i) (passed (class_of (frame_at fs i).kind) lo ∷ ps)

record Known (fs : List Frame) (c : ℕ) (p : Passed) : Type 0 where
  class : p.class ≡ class_of (frame_at fs c).kind
  tree : Tree fs p.first c

known : {fs : List Frame} {i : ℕ} {ps : List Passed} → Passing fs i ps → (c : ℕ) → c < i
    → Known fs c (get_or ps (i - suc c) nobody)
known Passing.start c l = absurd (omega arith)
known {fs} (Passing.more {i = i} {lo = lo} {ps = ps} h t) c l = at_passed (Known fs) i c _ ps (record { class = refl; tree = t }) (λ k. known h c k) l

-- ---- one row
-- what is found of a row of children that ends just before frame i
data RowFound (fs : List Frame) (i : ℕ) (cs : List Child) : Option ℕ → Type 0 where
  yes : {lo : ℕ} → Row fs lo i cs → RowFound fs i cs (Some lo)
  no : ((lo : ℕ) → Row fs lo i cs → ⊥) → RowFound fs i cs None

-- the end of a row is a row
record Rest (fs : List Frame) (i : ℕ) (cs : List Child) : Type 0 where
  from : ℕ
  row : Row fs from i cs

row_tail : {fs : List Frame} {i lo : ℕ} {c : Child} {cs : List Child} → Row fs lo i (c ∷ cs)
    → Rest fs i cs
row_tail (Row.more t e r) = record { from = _; row = r }

rest : {fs : List Frame} {i lo : ℕ} (rc cs : List Child) → Row fs lo i (reverse_aux rc cs)
    → Rest fs i cs
rest [] cs r = record { from = _; row = r }
rest (c ∷ rc) cs r = row_tail (rest rc (c ∷ cs) r).row

-- a child that fails the test cannot stand in front of the row: that row begins at one frame only
refuted : {fs : List Frame} {i stop lo : ℕ} {c : Child} {done : List Child} (p : Passed)
    → (c.at < i → Known fs c.at p) → Row fs stop i done
    → (eqb (suc c.at) stop && same_class p.class c.class) ≡ false → Row fs lo i (c ∷ done)
    → ⊥
refuted {i = i} {stop = stop} {c = c} p k r f (Row.more t e s) =
    let a : suc c.at ≡ stop = row_one s r in
    let b = row_le s in
    let m = k (omega arith) in
    let q : p.class ≡ c.class = m.class ∙ e in
    let z : same_class p.class c.class ≡ true = rw q (same_refl c.class) in
    and_false _ _ f (eq-eqb _ _ a) z

restart : {fs : List Frame} {i s t : ℕ} {cs : List Child} → s ≡ t → Row fs s i cs → Row fs t i cs
restart e r = rw e at r

-- `rc` are the children still to come, from the last to the first; `done` is their row so far, from
-- `stop` on
row_found : {fs : List Frame} {i : ℕ} {ps : List Passed} → Passing fs i ps
    → (rc done : List Child) (stop : ℕ) → Row fs stop i done
    → RowFound fs i (reverse_aux rc done) (row_first ps i stop rc)
unfolding row_first
row_found h [] done stop r = RowFound.yes r
row_found {fs} {i} {ps} h (c ∷ rc) done stop r = go (eqb (suc c.at) stop && same_class (get_or ps (i - suc c.at) nobody).class c.class) refl (λ lo s. row_found h rc (c ∷ done) lo s)
  where
    go : (b : Bool)
        → (eqb (suc c.at) stop && same_class (get_or ps (i - suc c.at) nobody).class c.class)
        ≡ b
        → ((lo : ℕ) → Row fs lo i (c ∷ done) → RowFound fs i (reverse_aux rc (c ∷ done)) (row_first ps i lo rc))
        → RowFound fs i (reverse_aux rc (c ∷ done)) (elim b [ true ↦ row_first ps i (get_or ps (i - suc c.at) nobody).first rc | false ↦ None ])
    go true e g =
        let a = and_true _ _ e in
        let q : suc c.at ≡ stop = eqb-true _ _ a.0 in
        let l = row_le r in
        let k = known h c.at (omega arith) in
        g _ (Row.more k.tree (sym k.class ∙ same_true _ _ a.1) (restart (sym q) r))
    go false e g = RowFound.no (λ lo x. refuted (get_or ps (i - suc c.at) nobody) (λ l. known h c.at l) r e (rest rc (c ∷ done) x).row)

-- all children of a frame
found_row : {fs : List Frame} {i : ℕ} {ps : List Passed} → Passing fs i ps → (cs : List Child)
    → RowFound fs i cs (row_first ps i i (reverse cs))
found_row {fs} {i} {ps} h cs =
    let r : RowFound fs i (reverse (reverse cs)) (row_first ps i i (reverse cs)) = row_found h (reverse cs) [] i Row.none in
    rw (reverse-reverse cs) at r

-- ---- the pass: what it finds from frame i on
data Disorder (fs : List Frame) (i : ℕ) : Option ℕ → Type 0 where
  fine : ((j : ℕ) → i ≤ j → j < length fs → HasTree fs j) → Disorder fs i None
  stop : {j : ℕ} → i ≤ j → j < length fs → (HasTree fs j → ⊥)
      → ((k : ℕ) → i ≤ k → k < j → HasTree fs k) → Disorder fs i (Some j)

-- where frame i has a tree, a frame from i on has one if those after i have
tree_from : {fs : List Frame} {i : ℕ} → HasTree fs i → (k : ℕ) → i ≤ k → (suc i ≤ k → HasTree fs k)
    → HasTree fs k
tree_from {fs} {i} t k l g = go (eqb k i) refl
  where
    go : (b : Bool) → eqb k i ≡ b → HasTree fs k
    go true e = (let z : k ≡ i = eqb-true k i e in rw z t)
    go false e = (let z : k ≡ i → ⊥ = eqb-false k i e in g (omega arith))

disorder_more : {fs : List Frame} {i : ℕ} {o : Option ℕ} → HasTree fs i → Disorder fs (suc i) o
    → Disorder fs i o
disorder_more t (Disorder.fine h) = Disorder.fine (λ j l k. tree_from t j l (λ m. h j m k))
disorder_more t (Disorder.stop {j =
    j} a b c d) = Disorder.stop {j = j} (omega arith) b c (λ k l n. tree_from t k l (λ m. d k m n))

disorder : {fs : List Frame} (tail : List Frame) (i : ℕ) (ps : List Passed) → From fs i tail
    → Passing fs i ps → Disorder fs i (first_disorder ps i tail)
unfolding first_disorder
disorder [] i ps w h = Disorder.fine (λ j l k. absurd (let s = w.size in omega arith))
disorder {fs} (f ∷ tail) i ps w h =
    let z : i + 0 ≡ i = omega arith in
    let e : f ≡ frame_at fs i = w.same 0 ∙ ap (frame_at fs) z in
    rw e (go (row_first ps i i (reverse (children (frame_at fs i)))) (found_row h (children (frame_at fs i))) (λ lo t. disorder tail (suc i) _ (from_next w) (Passing.more h t)))
  where
    go : (o : Option ℕ) → RowFound fs i (children (frame_at fs i)) o
        → ((lo : ℕ) → Tree fs lo i → Disorder fs (suc i) (first_disorder (passed (class_of (frame_at fs i).kind) lo ∷ ps) (suc i) tail))
        → Disorder fs i (elim o [ None ↦ Some i | Some first ↦ first_disorder (passed (class_of (frame_at fs i).kind) first ∷ ps) (suc i) tail ])
    go None (RowFound.no n) g = Disorder.stop {j = i} (omega arith) (let s = w.size in omega arith) (λ t. n _ (of_tree t.tree)) (λ k l m. absurd (omega arith))
      where
        of_tree : {lo : ℕ} → Tree fs lo i → Row fs lo i (children (frame_at fs i))
        of_tree (Tree.root r) = r
    go (Some lo) (RowFound.yes r) g =
        disorder_more (record { from = lo; tree = Tree.root r }) (g lo (Tree.root r))

-- ---- the lowest frame at which no tree ends
abbrev pub NoTree : List Frame → ℕ → Type 0
NoTree fs j = (j < length fs) × ((lo : ℕ) → Tree fs lo j → ⊥)

pub disorder_low : (fs : List Frame) → Lowest (NoTree fs) (first_disorder [] 0 fs)
disorder_low fs = go _ (disorder fs 0 [] (from_start fs) Passing.start)
  where
    go : (o : Option ℕ) → Disorder fs 0 o → Lowest (NoTree fs) o
    go None (Disorder.fine h) =
        Lowest.nowhere (λ j p. (let t = h j (omega arith) p.0 in p.1 _ t.tree))
    go (Some j) (Disorder.stop a b c d) = Lowest.lowest_at (b, λ lo t. c (record { from = lo; tree = t })) (λ k p. low k (leb j k) refl p)
      where
        low : (k : ℕ) (b : Bool) → leb j k ≡ b → NoTree fs k → j ≤ k
        low k true e p = leb-true j k e
        low k false e p = (let l : k < j = leb-false j k e in let t = d k (omega arith) l in absurd (p.1 _ t.tree))

-- where there is none, every frame is a tree's root
pub no_disorder : (fs : List Frame) → ((j : ℕ) → NoTree fs j → ⊥) → (j : ℕ) → j < length fs
    → HasTree fs j
no_disorder fs h = go _ (disorder fs 0 [] (from_start fs) Passing.start)
  where
    go : (o : Option ℕ) → Disorder fs 0 o → (j : ℕ) → j < length fs → HasTree fs j
    go None (Disorder.fine g) j l = g j (omega arith) l
    go (Some k) (Disorder.stop a b c d) j l =
        absurd (h k (b, λ lo t. c (record { from = lo; tree = t })))
