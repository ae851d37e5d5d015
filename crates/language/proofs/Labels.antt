-- Who is in step: two have one label exactly where the links put them in step, and the labels that
-- the code keeps are those. Assumes nothing.
use mathlib.Core.Path.{◌≡◌, refl, sym, ap, ap₂, subst, ◌∙◌}
use mathlib.Core.Bool.{Bool, true, ◌&&◌}
use mathlib.Core.List.{List, [], ◌∷◌}
use Prim.Native.Nat.{ℕ, zero, suc, ◌+◌, ◌-◌, ◌<◌, ◌≤◌}
use native.Mathlib.Omega.{arith}
use lib.Dec.{eqb}
use lib.ListN.{get_or, length}
use borrow.Author.Tests.{eq-eqb, eqb-true, le-leb}
use Rattle.basics.specs.If.{when◌then◌else◌}
use Rattle.basics.specs.Members.{In}
use Rattle.basics.proofs.Ifs.{if_all, if_yes, if_no}
use Rattle.language.specs.Places.{is_scheduler}
use Rattle.language.specs.Groups.{Link, InStep, label, in_step, InStepComputes}
use Rattle.language.specs.Effects.{with_member, set_from, group_of, subset, set_within, within}
use Rattle.language.specs.declared.effect.Effect.{Effect}
use Rattle.language.specs.Inner.Labels.{labels_from, labels_of, label_at, same_label, with_label}
use Rattle.language.specs.Inner.Labels.{relabelled, group_in, within_in}
use Rattle.language.proofs.PlaceLaws.{test_bounds}

-- ---- the relation and the labels

-- more links keep what is in step
more : {ls : List Link} {l : Link} {p q : ℕ} → InStep ls p q → InStep (l ∷ ls) p q
more InStep.itself = InStep.itself
more (InStep.linked i) = InStep.linked (In.later i)
more (InStep.back h) = InStep.back (more h)
more (InStep.through h g) = InStep.through (more h) (more g)

-- each is in step with its label
to_label : (ls : List Link) (p : ℕ) → InStep ls p (label ls p)
unfolding label
to_label [] p = InStep.itself
to_label (l ∷ ls) p =
    if_all (InStep (l ∷ ls) p) (eqb (label ls p) (label ls l.upper)) (label ls l.lower) (label ls p)
    (λ e.
    InStep.through (more (subst (InStep ls p) (eqb-true _ _ e) (to_label ls p)))
    (InStep.through (InStep.back (more (to_label ls l.upper)))
    (InStep.through (InStep.linked In.first) (more (to_label ls l.lower)))))
    (λ e. more (to_label ls p))

pub same_label_lem : (ls : List Link) (p q : ℕ) → label ls p ≡ label ls q → InStep ls p q
same_label_lem ls p q e =
    InStep.through (to_label ls p) (InStep.back (subst (InStep ls q) (sym e) (to_label ls q)))

-- one label stays one
kept : (l : Link) (ls : List Link) (p q : ℕ) → label ls p ≡ label ls q
    → label (l ∷ ls) p ≡ label (l ∷ ls) q
unfolding label
kept l ls p q e =
    ap (λ (n : ℕ). when eqb n (label ls l.upper) then label ls l.lower else n) e

link_label : (ls : List Link) (l : Link) → In l ls → label ls l.upper ≡ label ls l.lower
unfolding label
link_label (m ∷ ls) l In.first =
    if_yes _ _ (eq-eqb (label ls l.upper) (label ls l.upper) refl)
    ∙ if_all (λ (n : ℕ). label ls l.lower ≡ n) (eqb (label ls l.lower) (label ls l.upper)) _ _
    (λ _. refl) (λ _. refl)
link_label (m ∷ ls) l (In.later i) = kept m ls l.upper l.lower (link_label ls l i)
link_label [] l x' = elim x' [ ]

pub step_label : (ls : List Link) {p q : ℕ} → InStep ls p q → label ls p ≡ label ls q
step_label ls InStep.itself = refl
step_label ls (InStep.linked {l = l} i) = link_label ls l i
step_label ls (InStep.back h) = sym (step_label ls h)
step_label ls (InStep.through h g) = step_label ls h ∙ step_label ls g

pub in_step_computes : InStepComputes
in_step_computes ls p q =
    (λ h. same_label_lem ls p q (eqb-true _ _ h), λ h. eq-eqb _ _ (step_label ls h))

-- without links each is in step with itself alone
pub in_step_alone : (p q : ℕ) → in_step [] p q ≡ eqb p q
unfolding label
in_step_alone p q = refl

-- ---- the labels that the code keeps

label_at_lem : (ls : List Link) (p n i : ℕ) → i < n → get_or (labels_from ls p n) i 0 ≡ label ls (p + i)
unfolding labels_from
label_at_lem ls p zero i l = absurd (omega arith)
label_at_lem ls p (suc n) zero l = ap (label ls) (omega arith)
label_at_lem ls p (suc n) (suc i) l =
    label_at_lem ls (suc p) n i (omega arith) ∙ ap (label ls) (omega arith)

pub labels_length : (ls : List Link) (p n : ℕ) → length (labels_from ls p n) ≡ n
unfolding labels_from
labels_length ls p zero = refl
labels_length ls p (suc n) = ap suc (labels_length ls (suc p) n)

pub label_is : (ls : List Link) (p : ℕ) → is_scheduler p ≡ true → label_at (labels_of ls) p ≡ label ls p
label_is ls p h =
    let (a, b) = test_bounds 2 p h in
    label_at_lem ls 2 8 (p - 2) (omega arith) ∙ ap (label ls) (omega arith)

pub same_in_step : (ls : List Link) (p q : ℕ) → is_scheduler p ≡ true → is_scheduler q ≡ true
    → same_label (labels_of ls) p q ≡ in_step ls p q
same_in_step ls p q h k = ap₂ eqb (label_is ls p h) (label_is ls q k)

-- a link more
one_more : (l : Link) (ls : List Link) (p n : ℕ)
    → relabelled (label ls l.upper) (label ls l.lower) (labels_from ls p n) ≡ labels_from (l ∷ ls) p n
unfolding labels_from relabelled label
one_more l ls p zero = refl
one_more l ls p (suc n) =
    ap (λ (xs : List ℕ). with_label (label ls l.upper) (label ls l.lower) (label ls p) ∷ xs)
    (one_more l ls (suc p) n)

pub labels_more : (l : Link) (ls : List Link) → is_scheduler l.upper ≡ true
    → is_scheduler l.lower ≡ true
    → relabelled (label_at (labels_of ls) l.upper) (label_at (labels_of ls) l.lower) (labels_of ls)
    ≡ labels_of (l ∷ ls)
labels_more l ls h k =
    ap₂ (λ (x y : ℕ). relabelled x y (labels_of ls)) (label_is ls l.upper h) (label_is ls l.lower k)
    ∙ one_more l ls 2 8

-- ---- groups as sets
set_same : (f g : ℕ → Bool) (q n : ℕ) → ((x : ℕ) → q ≤ x → x < q + n → f x ≡ g x)
    → set_from f q n ≡ set_from g q n
unfolding set_from
set_same f g q zero h = refl
set_same f g q (suc n) h =
    let r = set_same f g (suc q) n (λ x a b. h x (omega arith) (omega arith)) in
    ap₂ (λ (t : Bool) (s : ℕ). when t then with_member q s else s) (h q (omega arith) (omega arith)) r

in_range : (x : ℕ) → 2 ≤ x → x < 10 → is_scheduler x ≡ true
in_range x a b = ap₂ ◌&&◌ (le-leb 2 x a) (le-leb x 9 (omega arith))

pub group_is : (ls : List Link) (p : ℕ) → group_in (labels_of ls) p ≡ group_of ls p
unfolding group_in group_of
group_is ls p =
    if_all (λ (s : ℕ). group_in (labels_of ls) p ≡ s) (is_scheduler p) _ _
    (λ h. if_yes _ _ h
    ∙ set_same (same_label (labels_of ls) p) (in_step ls p) 2 8
    (λ x a b. same_in_step ls p x h (in_range x a b)))
    (λ h. if_no _ _ h)

pub within_is : (ls : List Link) (p : ℕ) (e : Effect) → within_in (labels_of ls) p e ≡ within ls p e
unfolding within_in within
within_is ls p e =
    ap (λ (g : ℕ). set_within p e.cells && subset e.events g) (group_is ls p)
