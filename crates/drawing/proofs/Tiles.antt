-- In a file without fault the trees of its roots touch: each begins where the one before it ended,
-- and the last one ends the file. Assumes nothing.
use mathlib.Core.Path.{◌≡◌, refl, sym, ap, ◌∙◌}
use mathlib.Core.Bool.{Bool, true, false, true≢false}
use mathlib.Core.List.{List, [], ◌∷◌, ◌++◌}
use Prim.Native.Nat.{ℕ, suc, ◌+◌, ◌-◌, ◌≤◌, ◌<◌}
use native.Mathlib.Omega.{arith}
use lib.Dec.{eqb, ltb, leb}
use lib.ListN.{length}
use borrow.Author.Tests.{eqb-true, eqb-false, ltb-true, ltb-false, leb-true, leb-false}
use Rattle.basics.specs.If.{when◌then◌else◌}
use Rattle.basics.specs.Members.{All}
use Rattle.basics.proofs.Ifs.{if_yes, if_no}
use Rattle.language.specs.declared.refusal.Rule.TheVariants.{WrongField, WrongOrder}
use Rattle.language.specs.Kinds.{class_of, Child}
use Rattle.language.specs.declared.kind.Kind.{Kind}
use Rattle.language.specs.declared.kind.Kind.TheVariants.{Header, Declared, Module, Statement}
use Rattle.language.specs.declared.kind.Kind.TheVariants.{Expression, Unknown}
use Rattle.language.specs.declared.frame.Frame.{Frame}
use Rattle.program.specs.Trees.{frame_at}
use Rattle.fields.specs.Fields.{kind_fine}
use Rattle.layout.specs.Order.{Tree, Row, has_class}
use Rattle.layout.specs.Faults.{NoFault}
use Rattle.layout.proofs.Trees.{tree_le, tree_in, From, from_next, from_start}
use Rattle.layout.proofs.Order.{all_trees}
use Rattle.layout.proofs.Users.{within_tree, tree_from, one_user}
use Rattle.layout.proofs.Scopes.{main_last}
use Rattle.drawing.specs.Drawings.{rank, ranks}
use Rattle.drawing.proofs.Fields.{all_classed}
use Rattle.drawing.proofs.Roots.{rank_of, below, kind_fine_lem, declared_rank}

-- `Tiles fs lo is stop`: the frames from lo to just before `stop` are trees with these roots
pub data Tiles (fs : List Frame) : ℕ → List ℕ → ℕ → Type 0 where
  done : {n : ℕ} → Tiles fs n [] n
  next : {lo i stop : ℕ} {is : List ℕ} → Tree fs lo i → i < stop → rank_of (frame_at fs i) < ranks
      → Tiles fs (suc i) is stop → Tiles fs lo (i ∷ is) stop

-- ---- ranks and classes
pub root_class : (k : Kind) → rank k < ranks → has_class (class_of k) ≡ true → ⊥
root_class Header l h = true≢false (sym h)
root_class (Declared d) l h = true≢false (sym h)
root_class Module l h = true≢false (sym h)
root_class (Statement k) l h = absurd (omega arith)
root_class (Expression k) l h = absurd (omega arith)
root_class Unknown l h = absurd (omega arith)

pub rest_class : (fs : List Frame) (j : ℕ) (k : Kind) → ranks ≤ rank k → kind_fine fs j k ≡ true
    → has_class (class_of k) ≡ true
rest_class fs j Header l h = absurd (omega arith)
rest_class fs j (Declared d) l h = absurd (let a = declared_rank d in omega arith)
rest_class fs j Module l h = absurd (omega arith)
rest_class fs j (Statement k) l h = refl
rest_class fs j (Expression k) l h = refl
rest_class fs j Unknown l h = absurd (true≢false (sym h))

-- ---- what stands in a tree, but its root, has a class
module _ {fs : List Frame} where
  mutual
    pub tree_class : {lo r : ℕ} → Tree fs lo r → (i : ℕ) → lo ≤ i → i < r
        → has_class (class_of (frame_at fs i).kind) ≡ true
    tree_class {lo} {r} (Tree.root row) i a b = row_class row (all_classed (frame_at fs r)) i a b

    row_class : {lo stop : ℕ} {cs : List Child} → Row fs lo stop cs
        → All (λ (c : Child). has_class c.class ≡ true) cs → (i : ℕ) → lo ≤ i → i < stop
        → has_class (class_of (frame_at fs i).kind) ≡ true
    row_class Row.none x i a b = absurd (omega arith)
    row_class (Row.more {c = c} t e r) x i a b =
        go x (ltb i c.at) refl (eqb i c.at) refl (λ l. tree_class t i a l) (λ y l. row_class r y i l b)
      where
        go : {cs : List Child} → All (λ (c : Child). has_class c.class ≡ true) (c ∷ cs)
            → (p : Bool) → ltb i c.at ≡ p → (q : Bool) → eqb i c.at ≡ q
            → (i < c.at → has_class (class_of (frame_at fs i).kind) ≡ true)
            → (All (λ (c : Child). has_class c.class ≡ true) cs → suc c.at ≤ i → has_class (class_of (frame_at fs i).kind) ≡ true)
            → has_class (class_of (frame_at fs i).kind) ≡ true
        go (All.more x xs) true u q v f g = f (ltb-true i c.at u)
        go (All.more x xs) false u true v f g =
            ap (λ (n : ℕ). has_class (class_of (frame_at fs n).kind)) (eqb-true i c.at v)
            ∙ ap has_class e ∙ x
        go (All.more x xs) false u false v f g =
            let y = ltb-false i c.at u in
            let z = eqb-false i c.at v in
            g xs (omega (arith, z))

module _ (fs : List Frame) (fine : NoFault fs) where
  -- frame j is a root, or has a class
  abbrev IsRoot : ℕ → Type 0
  IsRoot j = rank_of (frame_at fs j) < ranks

  -- a root's tree begins at p, where the frame before p is a root and those from p to the root are
  -- none
  touches : (p i lo : ℕ) → Tree fs lo i → i < length fs → IsRoot i → p ≤ i
      → ((q : ℕ) → p ≤ q → q < i → ranks ≤ rank_of (frame_at fs q)) → ((q : ℕ) → suc q ≡ p → IsRoot q)
      → lo ≡ p
  touches p i lo t l r k rest before = go (ltb lo p) refl (ltb p lo) refl
    where
      early : lo < p → ⊥
      early h =
          root_class (frame_at fs (p - 1)).kind (before (p - 1) (omega arith)) (tree_class t (p - 1) (omega arith) (omega arith))

      late : p < lo → ⊥
      late h =
          let a = tree_le t in
          let q : ℕ = lo - 1 in
          let c = rest_class fs q (frame_at fs q).kind (rest q (omega arith) (omega arith)) (kind_fine_lem fs (λ j f. fine WrongField j f) q (omega arith)) in
          let u = one_user fs fine q (omega arith) c in
          let v = all_trees fs (λ n f. fine WrongOrder n f) u.user u.inside in
          let m = u.has in
          let x = tree_from v.tree m.among in
          let y = tree_in v.tree m.among in
          let e = m.at_it in
          by (leb u.user i) refl (λ w. (let z = within_tree t u.user v.from (omega arith) w v.tree in omega arith)) (λ w. root_class (frame_at fs i).kind r (tree_class v.tree i (omega arith) w))
        where
          by : {n : ℕ} (b : Bool) → leb n i ≡ b → (n ≤ i → ⊥) → (i < n → ⊥) → ⊥
          by {n} true e f g = f (leb-true n i e)
          by {n} false e f g = g (leb-false n i e)

      go : (a : Bool) → ltb lo p ≡ a → (b : Bool) → ltb p lo ≡ b → lo ≡ p
      go true x b y = absurd (early (ltb-true lo p x))
      go false x true y = absurd (late (ltb-true p lo y))
      go false x false y = let a = ltb-false lo p x in let b = ltb-false p lo y in omega arith

  -- from i on, where the last tree ended before p
  tiled : (tail : List Frame) (i p : ℕ) → From fs i tail → p ≤ i
      → ((q : ℕ) → p ≤ q → q < i → ranks ≤ rank_of (frame_at fs q)) → ((q : ℕ) → suc q ≡ p → IsRoot q)
      → 0 < length fs → Tiles fs p (below ranks i tail) (length fs)
  unfolding below
  tiled [] i p w l rest before some = go (eqb p (length fs)) refl
    where
      go : (b : Bool) → eqb p (length fs) ≡ b → Tiles fs p [] (length fs)
      go true e = rw (eqb-true p (length fs) e) Tiles.done
      go false e =
          let d = eqb-false p (length fs) e in
          let s = w.size in
          let m = main_last fs fine some in
          let r = rest (length fs - 1) (omega (arith, d)) (omega arith) in
          let k = ap rank m.0 in
          absurd (omega arith)
  tiled (f ∷ tail) i p w l rest before some =
      go (ltb (rank_of f) ranks) refl (λ a b. tiled tail (suc i) (suc i) (from_next w) (omega arith) a b some) (λ a. tiled tail (suc i) p (from_next w) (omega arith) a before some)
    where
      same : rank_of f ≡ rank_of (frame_at fs i)
      same = let z : i + 0 ≡ i = omega arith in ap rank_of (w.same 0 ∙ ap (frame_at fs) z)

      go : (b : Bool) → ltb (rank_of f) ranks ≡ b
          → (((q : ℕ) → suc i ≤ q → q < suc i → ranks ≤ rank_of (frame_at fs q)) → ((q : ℕ) → suc q ≡ suc i → IsRoot q) → Tiles fs (suc i) (below ranks (suc i) tail) (length fs))
          → (((q : ℕ) → p ≤ q → q < suc i → ranks ≤ rank_of (frame_at fs q)) → Tiles fs p (below ranks (suc i) tail) (length fs))
          → Tiles fs p ((when ltb (rank_of f) ranks then i ∷ [] else []) ++ below ranks (suc i) tail) (length fs)
      go true e found on =
          let s = w.size in
          let r = ltb-true (rank_of f) ranks e in
          let y = same in
          let k : i < length fs = omega arith in
          let t = all_trees fs (λ n f. fine WrongOrder n f) i k in
          let q = touches p i t.from t.tree k (omega arith) l rest before in
          let u : Tree fs p i = (rw q at t.tree) in
          let here : IsRoot i = omega arith in
          rw (if_yes (i ∷ []) [] e) (Tiles.next u k here (found (λ q a b. absurd (omega arith)) (λ q z. (let x : q ≡ i = omega arith in rw x here))))
      go false e found on = rw (if_no (i ∷ []) [] e) (on (λ q a b. (at q a b (eqb q i) refl)))
        where
          at : (q : ℕ) → p ≤ q → q < suc i → (b : Bool) → eqb q i ≡ b
              → ranks ≤ rank_of (frame_at fs q)
          at q a b true z =
              let x = eqb-true q i z in
              rw x (let y = same in let r = ltb-false (rank_of f) ranks e in omega arith)
          at q a b false z = let x = eqb-false q i z in rest q a (omega (arith, x))

  pub tiles : 0 < length fs → Tiles fs 0 (below ranks 0 fs) (length fs)
  tiles some =
      tiled fs 0 0 (from_start fs) (omega arith) (λ q a b. absurd (omega arith)) (λ q e. absurd (omega arith)) some
