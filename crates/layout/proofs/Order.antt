-- Refusal 6: the computed frame is the lowest that has a fault of the order. Assumes nothing.
use mathlib.Core.Bool.{Bool, true, false, ◌&&◌, true≢false, not}
use mathlib.Core.List.{List, [], ◌∷◌}
use mathlib.Core.Logic.{◌⊎◌, inl, inr}
use Rattle.std.specs.Prelude.{Option, Some}
use mathlib.Core.Path.{◌≡◌, refl, sym, ap, ◌∙◌}
use Prim.Native.Nat.{ℕ, zero, suc, ◌-◌, ◌≤◌, ◌<◌}
use native.Mathlib.Omega.{arith}
use lib.Dec.{ltb}
use lib.ListN.{length, take, length-take}
use lib.Seq.{get_or-take}
use borrow.Author.Tests.{not-true, ltb-true, ltb-false, lt-ltb}
use Rattle.basics.specs.Members.{All, any}
use Rattle.basics.specs.Inner.Searches.{lowest}
use Rattle.basics.proofs.Ifs.{and_true, if_all}
use Rattle.language.specs.Refusals.{rule_number, wrong_order}
use Rattle.language.specs.declared.refusal.Rule.{Rule}
use Rattle.language.specs.declared.refusal.Rule.TheVariants.{WrongOrder}
use Rattle.language.specs.Kinds.{declaration_rank, file_rank, class_of, Child, children}
use Rattle.language.specs.declared.kind.DeclarationKind.{DeclarationKind}
use Rattle.language.specs.declared.kind.Kind.{Kind}
use Rattle.language.specs.declared.kind.Kind.TheVariants.{Header, Declared, Module, Statement}
use Rattle.language.specs.declared.kind.Kind.TheVariants.{Expression, Unknown}
use Rattle.language.specs.declared.frame.Frame.{Frame}
use Rattle.program.specs.Trees.{no_frame, frame_at}
use Rattle.program.specs.Inner.Ordered.{Ordered}
use Rattle.layout.proofs.Searches.{Lowest, either, same_low, lowest_all, any_more, any_none}
use Rattle.layout.proofs.Searches.{any_false}
use Rattle.layout.specs.Faults.{Fault}
use Rattle.layout.specs.Order.{has_child, has_class, is_main, Tree, Row}
use Rattle.layout.specs.Inner.Scans.{highest_rank, is_late, is_misplaced, is_leftover}
use Rattle.layout.specs.Inner.Scans.{first_leftover, no_main, order_fault}
use Rattle.layout.proofs.Trees.{HasTree, row_le}
use Rattle.layout.proofs.Disorder.{NoTree, disorder_low, no_disorder}

-- ---- a declaration after a frame that it should precede
record Misplaced (fs : List Frame) (j : ℕ) : Type 0 where
  declaration : DeclarationKind
  other : ℕ
  before : other < j
  inside : j < length fs
  kind : (frame_at fs j).kind ≡ Declared declaration
  later : declaration_rank declaration < file_rank (frame_at fs other).kind

-- some frame has a rank above r
record Above (gs : List Frame) (r : ℕ) : Type 0 where
  at : ℕ
  inside : at < length gs
  above : r < file_rank (frame_at gs at).kind

-- the highest rank is one of theirs
rank_above : (gs : List Frame) (r : ℕ) → r < highest_rank gs → Above gs r
unfolding highest_rank
rank_above [] r l = absurd (omega arith)
rank_above (g ∷ gs) r l = go (ltb r (file_rank g.kind)) refl (λ m. rank_above gs r m)
  where
    go : (b : Bool) → ltb r (file_rank g.kind) ≡ b → (r < highest_rank gs → Above gs r)
        → Above (g ∷ gs) r
    go true e next = record { at = 0; inside = omega arith; above = ltb-true _ _ e }
    go false e next =
        let m = ltb-false r (file_rank g.kind) e in
        let p = next (omega arith) in
        record { at = suc p.at; inside = (let k = p.inside in omega arith); above = p.above }

-- and none is above it
pub rank_most : (gs : List Frame) (i : ℕ) → i < length gs
    → file_rank (frame_at gs i).kind ≤ highest_rank gs
unfolding highest_rank
rank_most [] i l = absurd (omega arith)
rank_most (g ∷ gs) zero l = omega arith
rank_most (g ∷ gs) (suc i) l = let m = rank_most gs i (omega arith) in omega arith

misplaced_low : (fs : List Frame)
    → Lowest (Misplaced fs) (lowest (λ (i : ℕ) (f : Frame). is_misplaced fs i f) 0 fs)
unfolding is_misplaced
misplaced_low fs = same_low (λ j h. to j (frame_at fs j).kind refl h.0 h.1) (λ j h. (h.inside, back j h)) (lowest_all no_frame (λ (i : ℕ) (f : Frame). is_misplaced fs i f) fs)
  where
    to : (j : ℕ) (k : Kind) → (frame_at fs j).kind ≡ k → j < length fs
        → is_late k (highest_rank (take j fs)) ≡ true → Misplaced fs j
    to j (Declared d) e l h =
        let p = rank_above (take j fs) (declaration_rank d) (ltb-true _ _ h) in
        let m = length-take j fs in
        let q = p.inside in
        let k : p.at < j = omega arith in
        record { declaration = d; other = p.at; before = k; inside = l; kind = e; later = rw (get_or-take j fs p.at no_frame k) at p.above }
    to j Header e l h = absurd (true≢false (sym h))
    to j Module e l h = absurd (true≢false (sym h))
    to j (Statement k) e l h = absurd (true≢false (sym h))
    to j (Expression k) e l h = absurd (true≢false (sym h))
    to j Unknown e l h = absurd (true≢false (sym h))

    back : (j : ℕ) → Misplaced fs j → is_misplaced fs j (frame_at fs j) ≡ true
    back j h =
        let m = length-take j fs in
        let a = h.before in
        let b = h.inside in
        let most = rank_most (take j fs) h.other (omega arith) in
        let same = ap (λ (g : Frame). file_rank g.kind) (get_or-take j fs h.other no_frame a) in
        let over = h.later in
        ap (λ (k : Kind). is_late k (highest_rank (take j fs))) h.kind
        ∙ lt-ltb (declaration_rank h.declaration) (highest_rank (take j fs)) (omega arith)

-- ---- a leftover frame: that the definition asks the later frames first changes nothing
abbrev pub leftover_test : List Frame → ℕ → Frame → Bool
leftover_test fs i f = has_class (class_of f.kind) && not (any (has_child i) fs)

leftover_test_lem : (fs : List Frame) (i : ℕ) (f : Frame) (tail : List Frame)
    → (any (has_child i) tail ≡ true → any (has_child i) fs ≡ true)
    → is_leftover fs i f tail ≡ leftover_test fs i f
unfolding is_leftover
leftover_test_lem fs i f tail h = go (has_class (class_of f.kind)) (any (has_child i) tail) h
  where
    go : (a b : Bool) → (b ≡ true → any (has_child i) fs ≡ true)
        → elim a [ true ↦ elim b [ true ↦ false | false ↦ not (any (has_child i) fs) ] | false ↦ false ]
        ≡ (a && not (any (has_child i) fs))
    go true true k = sym (ap not (k refl))
    go true false k = refl
    go false b k = refl

pub leftover_lowest : (fs tail : List Frame) (i : ℕ)
    → ((t : Frame → Bool) → any t tail ≡ true → any t fs ≡ true)
    → first_leftover fs i tail ≡ lowest (leftover_test fs) i tail
unfolding first_leftover lowest
leftover_lowest fs [] i h = refl
leftover_lowest fs (f ∷ tail) i h = rw (leftover_test_lem fs i f tail (λ e. h (has_child i) (any_more (has_child i) f tail e)), first_leftover) (go (leftover_test fs i f) (leftover_lowest fs tail (suc i) (λ t e. h t (any_more t f tail e))))
  where
    go : (b : Bool) → first_leftover fs (suc i) tail ≡ lowest (leftover_test fs) (suc i) tail
        → ◌≡◌ {A = Option ℕ} (elim b [ true ↦ Some i | false ↦ first_leftover fs (suc i) tail ])
        (elim b [ true ↦ Some i | false ↦ lowest (leftover_test fs) (suc i) tail ])
    go true e = refl
    go false e = e

record Leftover (fs : List Frame) (j : ℕ) : Type 0 where
  inside : j < length fs
  class : has_class (class_of (frame_at fs j).kind) ≡ true
  unused : (i : ℕ) → i < length fs → has_child j (frame_at fs i) ≡ false

leftover_low : (fs : List Frame) → Lowest (Leftover fs) (first_leftover fs 0 fs)
leftover_low fs = rw (leftover_lowest fs fs 0 (λ t e. e)) (same_low
    (λ j h. (let a = and_true _ _ h.1 in record { inside = h.0; class = a.0; unused = any_false no_frame (has_child j) fs (not-true _ a.1) }))
    (λ j h. (h.inside, rw h.class (ap not (any_none no_frame (has_child j) fs h.unused))))
    (lowest_all no_frame (leftover_test fs) fs))

-- ---- no main
abbrev NoMain : List Frame → ℕ → Type 0
NoMain fs j = (suc j ≡ length fs) × (is_main (frame_at fs j) ≡ false)

main_low : (fs : List Frame) → 0 < length fs → Lowest (NoMain fs) (no_main fs)
unfolding no_main
main_low fs l = if_all (Lowest (NoMain fs)) (is_main (frame_at fs (length fs - 1))) _ _
    (λ h. Lowest.nowhere (λ j p. (let e : j ≡ length fs - 1 = (let z = p.0 in omega arith) in true≢false (sym h ∙ (rw e at p).1))))
    (λ h. Lowest.lowest_at (omega arith, h) (λ k p. (let z = p.0 in omega arith)))

-- ---- the four faults together
abbrev Six : List Frame → ℕ → Type 0
Six fs j = NoTree fs j ⊎ (Misplaced fs j ⊎ (Leftover fs j ⊎ NoMain fs j))

to_six : {fs : List Frame} {n : Rule} {j : ℕ} → Fault fs n j → rule_number n ≡ wrong_order → Six fs j
to_six (Fault.header h) e = absurd (omega arith)
to_six (Fault.field l h) e = absurd (omega arith)
to_six (Fault.order l h) e = inl (l, h)
to_six (Fault.misplaced {i = i} {d = d} a b c l) e = inr (inl (record { declaration = d; other = i; before = a; inside = b; kind = c; later = l }))
to_six (Fault.leftover a b c) e = inr (inr (inl (record { inside = a; class = b; unused = c })))
to_six (Fault.main a b) e = inr (inr (inr (a, b)))
to_six (Fault.depth d h) e = absurd (omega arith)

from_six : {fs : List Frame} {j : ℕ} → Six fs j → Fault fs WrongOrder j
from_six (inl h) = Fault.order h.0 h.1
from_six (inr (inl h)) = Fault.misplaced h.before h.inside h.kind h.later
from_six (inr (inr (inl h))) = Fault.leftover h.inside h.class h.unused
from_six (inr (inr (inr h))) = Fault.main h.0 h.1

pub order_low : (fs : List Frame) → 0 < length fs → Lowest (Fault fs WrongOrder) (order_fault fs)
unfolding order_fault
order_low fs l = same_low (λ j h. from_six h) (λ j h. to_six h refl) (either (disorder_low fs) (either (misplaced_low fs) (either (leftover_low fs) (main_low fs l))))

-- ---- where no frame has a fault 6, every frame is the root of a tree
pub all_trees : (fs : List Frame) → ((k : ℕ) → Fault fs WrongOrder k → ⊥) → (j : ℕ) → j < length fs
    → HasTree fs j
all_trees fs h = no_disorder fs (λ j n. h j (Fault.order n.0 n.1))

-- and each child stands before its parent
row_below : {fs : List Frame} {lo stop : ℕ} {cs : List Child} → Row fs lo stop cs
    → All (λ (c : Child). c.at < stop) cs
row_below Row.none = All.none
row_below (Row.more t e r) = All.more (row_le r) (row_below r)

tree_below : {fs : List Frame} {lo i : ℕ} → Tree fs lo i
    → All (λ (c : Child). c.at < i) (children (frame_at fs i))
tree_below (Tree.root r) = row_below r

pub is_ordered : (fs : List Frame) → ((k : ℕ) → Fault fs WrongOrder k → ⊥) → Ordered fs
is_ordered fs h i l = tree_below (all_trees fs h i l).tree
