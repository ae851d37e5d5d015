-- The members of a group by the labels that a step keeps are those of the rules, and each is there.
-- Assumes nothing.
use Prim.Native.Nat.{ℕ, zero, suc, ◌+◌, ◌<◌, ◌≤◌}
use mathlib.Core.Path.{◌≡◌, refl, sym, ap, ap₂, ◌∙◌}
use mathlib.Core.List.{List, [], ◌∷◌}
use mathlib.Core.Bool.{Bool, true, false, not, ◌&&◌}
use native.Mathlib.Omega.{arith}
use lib.Dec.{eqb}
use lib.ListN.{length}
use borrow.Author.Tests.{le-leb, eq-eqb, ne_eqb, eqb-true, eqb-false}
use Rattle.basics.specs.If.{keep_if}
use Rattle.basics.specs.Members.{All, none, more}
use Rattle.basics.proofs.Ifs.{and_both}
use Rattle.language.specs.Groups.{Link, label, in_step}
use Rattle.language.specs.Places.{is_scheduler}
use Rattle.language.specs.Inner.Labels.{labels_of, same_label, in_group}
use Rattle.language.proofs.Labels.{same_in_step}
use Rattle.machine.specs.Groups.{schedulers_where}
use Rattle.machine.specs.State.{State}
use Rattle.machine.specs.Steps.{without_events_of}
use Rattle.groups.specs.Inner.Members.{members_in}
use Rattle.groups.proofs.MembersSay.{There}

-- tests that agree on n numbers from k on choose the same
where_same : (f g : ℕ → Bool) (k n : ℕ) → ((j : ℕ) → k ≤ j → j < k + n → f j ≡ g j)
    → schedulers_where f k n ≡ schedulers_where g k n
unfolding schedulers_where
where_same f g k zero h = refl
where_same f g k (suc n) h =
    ap₂ (λ (b : Bool) (qs : List ℕ). keep_if b k qs) (h k (omega arith) (omega arith))
    (where_same f g (suc k) n (λ j a b. h j (omega arith) (omega arith)))

-- what holds of each number holds of each that is chosen
where_all : (Q : ℕ → Type 0) (test : ℕ → Bool) (k n : ℕ) → ((j : ℕ) → k ≤ j → j < k + n → Q j)
    → All Q (schedulers_where test k n)
unfolding schedulers_where
where_all Q test k zero h = none
where_all Q test k (suc n) h =
    go (test k) (where_all Q test (suc k) n (λ j a b. h j (omega arith) (omega arith)))
  where
    go : (b : Bool) → All Q (schedulers_where test (suc k) n)
        → All Q (keep_if b k (schedulers_where test (suc k) n))
    go true r = more (h k (omega arith) (omega arith)) r
    go false r = r

pub scheduler_in : (j n : ℕ) → n ≤ 8 → 2 ≤ j → j < 2 + n → is_scheduler j ≡ true
scheduler_in j n l a b = and_both _ _ (le-leb 2 j a) (le-leb j 9 (omega arith))

pub members_same : (ls : List Link) (n c : ℕ) → n ≤ 8 → is_scheduler c ≡ true
    → members_in (labels_of ls) n c ≡ schedulers_where (in_step ls c) 2 n
members_same ls n c l h =
    where_same (same_label (labels_of ls) c) (in_step ls c) 2 n
    (λ j a b. same_in_step ls c j h (scheduler_in j n l a b))

pub members_there : (s : State) (test : ℕ → Bool) (n : ℕ) → length s.schedulers ≡ n → n ≤ 8
    → All (There s) (schedulers_where test 2 n)
members_there s test n e l = where_all (There s) test 2 n (λ j a b. (omega arith, omega arith))

-- two in step have one group
pub group_same : (ls : List Link) (n p o : ℕ) → in_step ls o p ≡ true
    → schedulers_where (in_step ls p) 2 n ≡ schedulers_where (in_step ls o) 2 n
group_same ls n p o h =
    where_same (in_step ls p) (in_step ls o) 2 n
    (λ j a b. ap (λ (x : ℕ). eqb x (label ls j)) (sym (eqb-true (label ls o) (label ls p) h)))

pub eqb_swap : (a b : ℕ) → eqb a b ≡ eqb b a
eqb_swap a b = go (eqb a b) refl
  where
    go : (d : Bool) → eqb a b ≡ d → eqb a b ≡ eqb b a
    go true e = e ∙ sym (eq-eqb b a (sym (eqb-true a b e)))
    go false e = e ∙ sym (ne_eqb b a (λ z. eqb-false a b e (sym z)))

-- a scheduler in step, by the labels
pub in_group_lem : (ls : List Link) (p o : ℕ) → is_scheduler p ≡ true → is_scheduler o ≡ true
    → in_group (labels_of ls) p o ≡ in_step ls p o
in_group_lem ls p o h k =
    ap (λ (b : Bool). b && same_label (labels_of ls) p o) k ∙ same_in_step ls p o h k

-- of events whose owners are schedulers, the same are cleared
pub cleared_same : (f g : ℕ → Bool) (os : List ℕ) (bs : List Bool) → All (λ (o : ℕ). f o ≡ g o) os
    → without_events_of f os bs ≡ without_events_of g os bs
unfolding without_events_of
cleared_same f g [] bs none = refl
cleared_same f g (o ∷ os) [] (more h hs) = refl
cleared_same f g (o ∷ os) (b ∷ bs) (more h hs) =
    ap₂ (λ (t : Bool) (cs : List Bool). (b && not t) ∷ cs) h (cleared_same f g os bs hs)
