-- What is below a frame is found in as many steps as there are frames; and where there is no
-- circle, no path of children is longer than that. Assumes nothing.
use mathlib.Core.Path.{◌≡◌, refl, sym, ap, subst}
use mathlib.Core.Logic.{⊎_elim}
use mathlib.Core.Bool.{Bool, true, false, true≢false}
use mathlib.Core.List.{List, [], ◌∷◌}
use Prim.Native.Nat.{ℕ, zero, suc, ◌≤◌, ◌<◌}
use native.Mathlib.Omega.{arith}
use lib.Dec.{eqb, ltb}
use lib.ListN.{length}
use borrow.Author.Tests.{eq-eqb, ltb-true, ltb-false}
use Rattle.basics.specs.Members.{In}
use Rattle.basics.specs.Members.{any}
use Rattle.language.specs.Kinds.{Child, children}
use Rattle.language.specs.declared.frame.Frame.{Frame}
use Rattle.program.specs.Trees.{no_frame, frame_at}
use Rattle.layout.specs.Order.{has_child}
use Rattle.layout.proofs.Trees.{none_in}
use Rattle.layout.proofs.Users.{among_children}
use Rattle.drawing.specs.TreeFaults.{Below}
use Rattle.drawing.specs.Inner.Finds.{below_to, is_below}
use Rattle.basics.proofs.Ifs.{or_true, or_left, or_right}
use Rattle.basics.proofs.Closures.{count, count_most, fewer, Still, closed}
use Rattle.drawing.proofs.InOrder.{Within, within}

-- ---- a test of some member
pub record Member {A : Type 0} (test : A → Bool) (xs : List A) : Type 0 where
  pub member : A
  pub among : In member xs
  pub passes : test member ≡ true

pub in_any : {A : Type 0} (test : A → Bool) (xs : List A) → any test xs ≡ true → Member test xs
unfolding any
in_any test [] h = absurd (true≢false (sym h))
in_any {A} test (x ∷ xs) h = go (test x) refl h (λ g. in_any test xs g)
  where
    go : (b : Bool) → test x ≡ b → elim b [ true ↦ true | false ↦ any test xs ] ≡ true
        → (any test xs ≡ true → Member test xs) → Member test (x ∷ xs)
    go true e g r = record { member = x; among = In.first; passes = e }
    go false e g r =
        let m = r g in
        record { member = m.member; among = In.later m.among; passes = m.passes }

pub any_in : {A : Type 0} (test : A → Bool) {x : A} {xs : List A} → In x xs → test x ≡ true
    → any test xs ≡ true
unfolding any
any_in test {x} (In.first {xs = xs}) e =
    ap (λ (b : Bool). elim b [ true ↦ true | false ↦ any test xs ]) e
any_in test (In.later {y = y} {xs = xs} m) e = go (test y) (any_in test m e)
  where
    go : (b : Bool) → any test xs ≡ true → elim b [ true ↦ true | false ↦ any test xs ] ≡ true
    go true h = refl
    go false h = h

-- ---- children
pub has_child_lem : (f : Frame) {c : Child} → In c (children f) → has_child c.at f ≡ true
unfolding has_child
has_child_lem f {c} m = any_in (λ (x : Child). eqb x.at c.at) m (eq-eqb c.at c.at refl)

outside : (fs : List Frame) (i : ℕ) → length fs ≤ i → frame_at fs i ≡ no_frame
outside [] i l = refl
outside (f ∷ fs) zero l = absurd (omega arith)
outside (f ∷ fs) (suc i) l = outside fs i (omega arith)

-- what is no frame has no child
pub only_frames : (fs : List Frame) (i : ℕ) (c : Child) → In c (children (frame_at fs i))
    → i < length fs
unfolding children
only_frames fs i c m = go (ltb i (length fs)) refl
  where
    go : (b : Bool) → ltb i (length fs) ≡ b → i < length fs
    go true e = ltb-true i (length fs) e
    go false e =
        absurd (none_in (subst (λ (f : Frame). In c (children f)) (outside fs i (ltb-false i (length fs) e)) m))

-- ---- below a frame
below_inside : {fs : List Frame} {i j : ℕ} → Below fs i j → i < length fs
below_inside {fs} (Below.child {i = i} {c = c} m) = only_frames fs i c m
below_inside {fs} (Below.further {i = i} {c = c} m b) = only_frames fs i c m

module _ (fs : List Frame) (j : ℕ) where
  pub found_below : (k i : ℕ) → below_to k fs j i ≡ true → Below fs i j
  unfolding below_to
  found_below zero i e =
      let a = among_children j (frame_at fs i) e in
      subst (Below fs i) a.at_it (Below.child a.among)
  found_below (suc k) i e =
      ⊎_elim (λ h. (let a = among_children j (frame_at fs i) h in subst (Below fs i) a.at_it (Below.child a.among))) (λ h. (let m = in_any _ (children (frame_at fs i)) h in Below.further m.among (found_below k m.member.at m.passes))) (or_true (has_child j (frame_at fs i)) _ e)

  more : (k i : ℕ) → below_to k fs j i ≡ true → below_to (suc k) fs j i ≡ true
  unfolding below_to
  more zero i e = or_left _ _ e
  more (suc k) i e =
      ⊎_elim (λ h. or_left _ _ h) (λ h. (let m = in_any _ (children (frame_at fs i)) h in or_right (has_child j (frame_at fs i)) _ (any_in (λ (c : Child). below_to (suc k) fs j c.at) m.among (more k m.member.at m.passes)))) (or_true (has_child j (frame_at fs i)) _ e)

  nowhere : (k i : ℕ) → below_to k fs j i ≡ true → i < length fs
  nowhere k i e = below_inside (found_below k i e)

  still_on : (k : ℕ) → Still (λ k i. below_to k fs j i) (length fs) k
      → Still (λ k i. below_to k fs j i) (length fs) (suc k)
  unfolding below_to
  still_on k h i l e =
      ⊎_elim (λ a. or_left _ _ a) (λ a. (let m = in_any _ (children (frame_at fs i)) a in or_right (has_child j (frame_at fs i)) _ (any_in (λ (c : Child). below_to k fs j c.at) m.among (h m.member.at (nowhere (suc k) m.member.at m.passes) m.passes)))) (or_true (has_child j (frame_at fs i)) _ e)

pub below_found : (fs : List Frame) {i j : ℕ} → Below fs i j → (k : ℕ) × (below_to k fs j i ≡ true)
unfolding below_to
below_found fs (Below.child {i = i} m) = (0, has_child_lem (frame_at fs i) m)
below_found fs (Below.further {i = i} {j = j} m b) =
    let r = below_found fs b in
    (suc r.0, or_right (has_child j (frame_at fs i)) _ (any_in (λ (c : Child). below_to r.0 fs j c.at) m r.1))

-- the test is the relation
pub is_below_lem : (fs : List Frame) (i j : ℕ) → is_below fs j i ≡ true → Below fs i j
is_below_lem fs i j e = found_below fs j (suc (length fs)) i e

pub below_is : (fs : List Frame) (i j : ℕ) → i < length fs → Below fs i j → is_below fs j i ≡ true
below_is fs i j l b =
    let r = below_found fs b in
    closed (λ k t. below_to k fs j t) (length fs) (more fs j) (still_on fs j) r.0 i l r.1

-- ---- no circle
module _ (fs : List Frame) (inside : (i : ℕ) (c : Child) → In c (children (frame_at fs i)) → c.at < length fs) (trees : (j : ℕ) → j < length fs → Below fs j j → ⊥) where
  -- how many frames are below frame i
  abbrev under : ℕ → ℕ
  under i = count (λ j. is_below fs j i) (length fs)

  falls : (i : ℕ) (c : Child) → In c (children (frame_at fs i)) → under c.at < under i
  falls i c m =
      let l = only_frames fs i c m in
      let k = inside i c m in
      fewer (λ j. is_below fs j c.at) (λ j. is_below fs j i) (length fs) c.at (λ j q e. below_is fs i j l (Below.further m (is_below_lem fs c.at j e))) k (off (is_below fs c.at c.at) refl k) (below_is fs i c.at l (Below.child m))
    where
      off : (b : Bool) → is_below fs c.at c.at ≡ b → c.at < length fs → b ≡ false
      off true e k = absurd (trees c.at k (is_below_lem fs c.at c.at e))
      off false e k = refl

  within_falling : (n i : ℕ) → under i < n → Within fs n i
  within_falling zero i l = absurd (omega arith)
  within_falling (suc n) i l =
      within (λ c m. within_falling n c.at (let f = falls i c m in omega arith))

  pub within_all : (i : ℕ) → Within fs (suc (length fs)) i
  within_all i =
      within_falling (suc (length fs)) i (let m = count_most (λ j. is_below fs j i) (length fs) in omega arith)
