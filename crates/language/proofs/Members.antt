-- What effects mean as sets of schedulers: membership in the empty set, in a join, with one owner
-- added, and what it is to lie within a place and its group. Assumes nothing.
use mathlib.Core.Path.{◌≡◌, refl, sym, ap, subst, ◌∙◌}
use mathlib.Core.Bool.{Bool, true, false, ◌&&◌, ◌||◌, true≢false}
use mathlib.Core.List.{List, []}
use mathlib.Core.Logic.{◌⊎◌, inl, inr}
use Prim.Native.Nat.{ℕ, zero, suc, ◌+◌, ◌-◌, ◌/◌, ◌%◌, ◌^◌, ◌<◌, ◌≤◌, max}
use native.Mathlib.Nat.{pow-suc}
use native.Mathlib.Omega.{arith}
use native.Mathlib.Decide.{ℕ_discrete}
use lib.Dec.{leb, eqb}
use lib.Bits.{bit_or}
use borrow.Author.Tests.{le-leb, eq-eqb, ne_eqb, leb-true, eqb-true, eqb-false}
use Rattle.basics.proofs.Ifs.{if_all, if_yes, and_true, and_both, and_off, or_off, or_true, or_left}
use Rattle.basics.proofs.Ifs.{or_right}
use Rattle.basics.proofs.Bits.{bit, bit_zero, bit-suc, no_bit, same_bit, other_bit, bit_or_lem}
use Rattle.language.specs.Places.{is_scheduler}
use Rattle.language.specs.Groups.{Link, InStep, label, in_step}
use Rattle.language.specs.Effects.{member, only, with_member, set_within, set_from, group_of}
use Rattle.language.specs.Effects.{subset, within}
use Rattle.language.specs.declared.effect.Effect.{Effect}
use Rattle.language.proofs.PlaceLaws.{from_home, test_bounds}
use Rattle.language.proofs.Labels.{in_step_computes, step_label}

-- ---- bits
-- a bit of the half is one of the whole
bit_of_half : (n : ℕ) → (q : ℕ) × (bit q (n / 2) ≡ 1) → (q : ℕ) × (bit q n ≡ 1)
bit_of_half n (q, e) = (suc q, bit-suc q n ∙ e)

-- a number other than 0 has a bit; k bounds it, for the recursion over halves
below_power : (n : ℕ) → n < 2 ^ n
below_power zero = omega arith
below_power (suc n) = let e = pow-suc 2 n in let h = below_power n in omega arith

some_bit : (k n : ℕ) → n < 2 ^ k → (n ≡ 0 → ⊥) → (q : ℕ) × (bit q n ≡ 1)
some_bit zero n h m = absurd (m (omega arith))
some_bit (suc k) n h m = go (some_bit k (n / 2)) (ℕ_discrete (n % 2) 1)
  where
    go : (n / 2 < 2 ^ k → (n / 2 ≡ 0 → ⊥) → (q : ℕ) × (bit q (n / 2) ≡ 1)) → Dec (n % 2 ≡ 1)
        → (q : ℕ) × (bit q n ≡ 1)
    go f (yes e) = (0, bit_zero n ∙ e)
    go f (no d) =
        let e = pow-suc 2 k in
        bit_of_half n (f (omega (arith, d)) (λ z. m (omega (arith, d, z))))

-- a number whose one bit is p
only_bit : (p n : ℕ) → (n ≡ 0 → ⊥) → ((q : ℕ) → bit q n ≡ 1 → q ≡ p) → n ≡ 2 ^ p
only_bit zero n m f = go (ℕ_discrete (n / 2) 0)
  where
    go : Dec (n / 2 ≡ 0) → n ≡ 1
    go (yes e) = omega (arith, m)
    go (no d) =
        let r = some_bit (n / 2) (n / 2) (below_power (n / 2)) d in
        let z = f (suc r.0) (bit-suc r.0 n ∙ r.1) in
        absurd (omega arith)
only_bit (suc p) n m f = go (only_bit p (n / 2)) (ℕ_discrete (n % 2) 1)
  where
    go : ((n / 2 ≡ 0 → ⊥) → ((q : ℕ) → bit q (n / 2) ≡ 1 → q ≡ p) → n / 2 ≡ 2 ^ p) → Dec (n % 2 ≡ 1)
        → n ≡ 2 ^ suc p
    go g (yes e) = let z = f 0 (bit_zero n ∙ e) in absurd (omega arith)
    go g (no d) =
        let r = g (λ z. m (omega (arith, d, z))) (λ q h. let z = f (suc q) (bit-suc q n ∙ h) in omega arith) in
        let e = pow-suc 2 p in
        omega (arith, d)

-- ---- sets

-- the empty set has no member
pub member_none : (p : ℕ) → member p 0 ≡ false
member_none p =
    ap (λ (b : Bool). leb 2 p && b)
    (ne_eqb (bit (p - 2) 0) 1 (λ e. let z = no_bit (p - 2) in omega arith))
    ∙ and_off (leb 2 p)

either : (x y z : ℕ) → x < 2 → y < 2 → z ≡ max x y → eqb z 1 ≡ (eqb x 1 || eqb y 1)
either x y z a b e = go (eqb x 1) refl (eqb y 1) refl
  where
    go : (s : Bool) → eqb x 1 ≡ s → (t : Bool) → eqb y 1 ≡ t → eqb z 1 ≡ (s || t)
    go true f t g = let h = eqb-true x 1 f in eq-eqb z 1 (omega arith)
    go false f true g = let h = eqb-true y 1 g in eq-eqb z 1 (omega arith)
    go false f false g =
        ne_eqb z 1 (λ i. let h = eqb-false x 1 f in let k = eqb-false y 1 g in omega (arith, h, k))

and_or : (a x y : Bool) → (a && (x || y)) ≡ (a && x || a && y)
and_or true x y = refl
and_or false x y = refl

-- 'A frame joins its children's effects': a member of the join is a member of one or of the other
pub member_join : (p s t : ℕ) → member p (bit_or s t) ≡ (member p s || member p t)
member_join p s t =
    ap (λ (b : Bool). leb 2 p && b)
    (either (bit (p - 2) s) (bit (p - 2) t) _ (omega arith) (omega arith) (bit_or_lem (p - 2) s t))
    ∙ and_or (leb 2 p) (eqb (bit (p - 2) s) 1) (eqb (bit (p - 2) t) 1)

-- the set of one scheduler
member-only : (p o : ℕ) → 2 ≤ o → member p (only o) ≡ eqb p o
member-only p o l = go (ℕ_discrete p o)
  where
    same : p ≡ o → bit (p - 2) (2 ^ (o - 2)) ≡ 1
    same e = ap (λ (q : ℕ). bit (q - 2) (2 ^ (o - 2))) e ∙ same_bit (o - 2)

    other : (p ≡ o → ⊥) → 2 ≤ p → bit (p - 2) (2 ^ (o - 2)) ≡ 1 → ⊥
    other d h z = let k = other_bit (p - 2) (o - 2) (λ e. d (omega arith)) in omega arith

    none : (p ≡ o → ⊥) → (b : Bool) → leb 2 p ≡ b → (b && eqb (bit (p - 2) (2 ^ (o - 2))) 1) ≡ false
    none d true h = ne_eqb _ 1 (other d (leb-true 2 p h))
    none d false h = refl

    go : Dec (p ≡ o) → member p (only o) ≡ eqb p o
    go (yes e) = rw (le-leb 2 p (omega arith)) (eq-eqb _ _ (same e) ∙ sym (eq-eqb p o e))
    go (no d) = none d (leb 2 p) refl ∙ sym (ne_eqb p o d)

-- '.. add the cell's owner if it is a scheduler'
pub member_owner : (p o s : ℕ)
    → member p (with_member o s) ≡ (member p s || is_scheduler o && eqb p o)
unfolding with_member
member_owner p o s =
    if_all (λ (t : ℕ). member p t ≡ (member p s || is_scheduler o && eqb p o)) (is_scheduler o)
    (bit_or s (only o)) s
    (λ h. rw h (member_join p s (only o) ∙ ap (λ (b : Bool). member p s || b) (member-only p o (from_home o h))))
    (λ h. rw h (or_off (member p s)))

-- 'within {S}, or empty when S is 1', of the members: each is p, which is a scheduler
abbrev pub SetWithin : ℕ → ℕ → Type 0
SetWithin p s = (q : ℕ) → member q s ≡ true → (q ≡ p) × (is_scheduler p ≡ true)

-- the test `set_within` says just that
pub within_members : (p s : ℕ) → set_within p s ≡ true → SetWithin p s
unfolding set_within
within_members p s h q m = go (eqb s 0) refl h
  where
    has : bit (q - 2) s ≡ 1
    has = eqb-true _ _ (and_true (leb 2 q) _ m).1

    go : (t : Bool) → eqb s 0 ≡ t
        → (t || is_scheduler p && eqb s (only p)) ≡ true
        → (q ≡ p) × (is_scheduler p ≡ true)
    go true z k =
        let n : bit (q - 2) s ≡ 0 = ap (bit (q - 2)) (eqb-true _ _ z) ∙ no_bit (q - 2) in
        let o = has in
        absurd (omega arith)
    go false z k =
        let r = and_true (is_scheduler p) (eqb s (only p)) k in
        (eqb-true _ _ (sym (member-only q p (from_home p r.0)) ∙ ap (member q) (sym (eqb-true _ _ r.1)) ∙ m), r.0)

-- a bit is a scheduler's
bit-member : (q s : ℕ) → bit q s ≡ 1 → member (2 + q) s ≡ true
bit-member q s h =
    rw (le-leb 2 (2 + q) (omega arith))
    (eq-eqb _ _ (ap (λ (k : ℕ). bit k s) (let z : 2 + q - 2 ≡ q = omega arith in z) ∙ h))

pub members_within : (p s : ℕ) → SetWithin p s → set_within p s ≡ true
unfolding set_within
members_within p s h = go (ℕ_discrete s 0)
  where
    below : (q : ℕ) → bit q s ≡ 1 → q ≡ p - 2
    below q k = let z = (h (2 + q) (bit-member q s k)).0 in omega arith

    go : Dec (s ≡ 0)
        → (eqb s 0 || is_scheduler p && eqb s (only p)) ≡ true
    go (yes z) = rw (eq-eqb _ _ z)
    go (no d) =
        let b = some_bit s s (below_power s) d in
        let k = (h (2 + b.0) (bit-member b.0 s b.1)).1 in
        let o = only_bit (p - 2) s d below in
        rw (ne_eqb _ _ d, k, eq-eqb _ _ o)

-- ---- schedulers that pass a test
in_set : (test : ℕ → Bool) (x q n : ℕ) → member x (set_from test q n) ≡ true
    → (test x ≡ true) × (is_scheduler x ≡ true)
unfolding set_from
in_set test x q zero h = absurd (true≢false (sym h ∙ member_none x))
in_set test x q (suc n) h =
    if_all (λ (s : ℕ). member x s ≡ true → (test x ≡ true) × (is_scheduler x ≡ true)) (test q)
    (with_member q (set_from test (suc q) n)) (set_from test (suc q) n)
    (λ t k. by t (in_set test x (suc q) n)
    (or_true (member x (set_from test (suc q) n)) _ (sym (member_owner x q (set_from test (suc q) n)) ∙ k)))
    (λ t. in_set test x (suc q) n) h
  where
    by : test q ≡ true
        → (member x (set_from test (suc q) n) ≡ true → (test x ≡ true) × (is_scheduler x ≡ true))
        → (member x (set_from test (suc q) n) ≡ true) ⊎ ((is_scheduler q && eqb x q) ≡ true)
        → (test x ≡ true) × (is_scheduler x ≡ true)
    by t f (inl k) = f k
    by t f (inr k) =
        let r = and_true (is_scheduler q) (eqb x q) k in
        let e = eqb-true x q r.1 in
        (ap test e ∙ t, ap is_scheduler e ∙ r.0)

to_set : (test : ℕ → Bool) (x q n : ℕ) → q ≤ x → x < q + n → is_scheduler x ≡ true → test x ≡ true
    → member x (set_from test q n) ≡ true
unfolding set_from
to_set test x q zero a b s t = absurd (omega arith)
to_set test x q (suc n) a b s t =
    if_all (λ (r : ℕ). member x r ≡ true) (test q)
    (with_member q (set_from test (suc q) n)) (set_from test (suc q) n)
    (λ u. member_owner x q (set_from test (suc q) n) ∙ go (ℕ_discrete x q) (to_set test x (suc q) n))
    (λ u. to_set test x (suc q) n
    (let d : x ≡ q → ⊥ = λ e. true≢false (sym t ∙ ap test e ∙ u) in omega (arith, d)) (omega arith) s t)
  where
    go : Dec (x ≡ q)
        → (suc q ≤ x → x < suc q + n → is_scheduler x ≡ true → test x ≡ true
        → member x (set_from test (suc q) n) ≡ true)
        → (member x (set_from test (suc q) n) || is_scheduler q && eqb x q) ≡ true
    go (yes e) f =
        or_right (member x (set_from test (suc q) n)) _ (and_both _ _ (ap is_scheduler (sym e) ∙ s) (eq-eqb x q e))
    go (no d) f = or_left _ (is_scheduler q && eqb x q) (f (omega (arith, d)) (omega arith) s t)

-- 'an event's owner must be the place or in step with it', of the members
abbrev pub GroupWithin : List Link → ℕ → ℕ → Type 0
GroupWithin ls p s =
    (q : ℕ) → member q s ≡ true → InStep ls q p × (is_scheduler q ≡ true) × (is_scheduler p ≡ true)

-- two numbers with the same bits; k bounds them
bits_same : (k a b : ℕ) → a < 2 ^ k → b < 2 ^ k → ((q : ℕ) → bit q a ≡ bit q b) → a ≡ b
bits_same zero a b l m h = omega arith
bits_same (suc k) a b l m h =
    let e = pow-suc 2 k in
    let r = bits_same k (a / 2) (b / 2) (omega arith) (omega arith)
    (λ q. sym (bit-suc q a) ∙ h (suc q) ∙ bit-suc q b) in
    let z = sym (bit_zero a) ∙ h 0 ∙ bit_zero b in
    omega arith

pub within_group : (ls : List Link) (p s : ℕ) → subset s (group_of ls p) ≡ true → GroupWithin ls p s
unfolding group_of
within_group ls p s h q m =
    if_all
    (λ (g : ℕ). member q g ≡ true
    → InStep ls q p × (is_scheduler q ≡ true) × (is_scheduler p ≡ true))
    (is_scheduler p) (set_from (in_step ls p) 2 8) 0
    (λ t k.
    let r = in_set (in_step ls p) q 2 8 k in
    (InStep.back ((in_step_computes ls p q).0 r.0), r.1, t))
    (λ t k. absurd (true≢false (sym k ∙ member_none q)))
    (ap (member q) (sym (eqb-true _ _ h)) ∙ member_join q s (group_of ls p) ∙ or_left (member q s) _ m)

pub group_within : (ls : List Link) (p s : ℕ) → GroupWithin ls p s → subset s (group_of ls p) ≡ true
unfolding group_of
group_within ls p s h = eq-eqb _ _ (bits_same (bit_or s g + g) (bit_or s g) g (omega (arith, small)) (omega (arith, small)) same)
  where
    g : ℕ
    g = group_of ls p

    small : bit_or s g + g < 2 ^ (bit_or s g + g)
    small = below_power (bit_or s g + g)

    has : (q : ℕ) → bit q s ≡ 1 → bit q g ≡ 1
    has q k =
        let (i, t, u) = h (2 + q) (bit-member q s k) in
        let (a, b) = test_bounds 2 (2 + q) t in
        let m : member (2 + q) g ≡ true =
        ap (member (2 + q)) (if_yes _ _ u)
        ∙ to_set (in_step ls p) (2 + q) 2 8 (omega arith) (omega arith) t ((in_step_computes ls p (2 + q)).1 (InStep.back i)) in
        ap (λ (k : ℕ). bit k g) (omega arith) ∙ eqb-true _ _ (and_true (leb 2 (2 + q)) _ m).1

    same : (q : ℕ) → bit q (bit_or s g) ≡ bit q g
    same q = go (ℕ_discrete (bit q s) 1)
      where
        go : Dec (bit q s ≡ 1) → bit q (bit_or s g) ≡ bit q g
        go (yes e) =
            let a = bit_or_lem q s g in let b = has q e in omega (arith, a, b, e)
        go (no d) =
            let a = bit_or_lem q s g in
            let z : bit q s < 2 = omega arith in
            omega (arith, a, z, d)

-- ---- effects: both sets

abbrev pub Within : List Link → ℕ → Effect → Type 0
Within ls p e = SetWithin p e.cells × GroupWithin ls p e.events

-- the test `within` says just that
pub within_sets : (ls : List Link) (p : ℕ) (e : Effect) → within ls p e ≡ true → Within ls p e
unfolding within
within_sets ls p e h =
    let r = and_true (set_within p e.cells) (subset e.events (group_of ls p)) h in
    (within_members p e.cells r.0, within_group ls p e.events r.1)

pub sets_within : (ls : List Link) (p : ℕ) (e : Effect) → Within ls p e → within ls p e ≡ true
unfolding within
sets_within ls p e (h, k) =
    and_both _ _ (members_within p e.cells h) (group_within ls p e.events k)

-- without links the events' set is asked as the cells' is: the check of such a file is as it was
-- before change 7
pub within_alone : (p : ℕ) (e : Effect)
    → within [] p e ≡ (set_within p e.cells && set_within p e.events)
unfolding within label
within_alone p e =
    ap (λ (b : Bool). set_within p e.cells && b)
    (same (subset s (group_of [] p)) (set_within p s) to from)
  where
    s : ℕ
    s = e.events

    same : (a b : Bool) → (a ≡ true → b ≡ true) → (b ≡ true → a ≡ true) → a ≡ b
    same true b f g = sym (f refl)
    same false true f g = g refl
    same false false f g = refl

    to : subset s (group_of [] p) ≡ true → set_within p s ≡ true
    to h =
        members_within p s
        (λ q m. let (i, t, u) = within_group [] p s h q m in (step_label [] i, u))

    from : set_within p s ≡ true → subset s (group_of [] p) ≡ true
    from h =
        group_within [] p s
        (λ q m. let (i, u) = within_members p s h q m in
        (subst (λ (r : ℕ). InStep [] r p) (sym i) InStep.itself, ap is_scheduler i ∙ u, u))
