-- Expressions: whatever is broken, the finding is a fault no later. Assumes nothing.
use Rattle.std.specs.Prelude.{Ok, Err}
use mathlib.Core.Path.{◌≡◌, sym, ◌∙◌}
use mathlib.Core.Logic.{inl}
use mathlib.Core.Bool.{not, ◌&&◌, true≢false}
use mathlib.Core.List.{List}
use Prim.Native.Nat.{ℕ, ◌≤◌, ◌<◌}
use native.Mathlib.Omega.{arith}
use lib.Dec.{ltb, eqb}
use borrow.Author.Tests.{ltb-true, eqb-true, not-false}
use lib.ListN.{length}
use Rattle.basics.proofs.Ifs.{and_true}
use Rattle.language.specs.Places.{private}
use Rattle.language.specs.Types.{number_type, truth_type, is_cell, room_around, public}
use Rattle.language.specs.declared.effect.Effect.{Effect}
use Rattle.language.specs.declared.refusal.Rule.{Rule}
use Rattle.language.specs.declared.refusal.Rule.TheVariants.{Unbound, IllTyped, Escaping}
use Rattle.language.specs.declared.refusal.Refusal.{Refusal}
use Rattle.program.specs.Trees.{Expr, root_e}
use Rattle.layout.proofs.Placed.{PlacedE}
use Rattle.rules.specs.declared.finding.Typed.{Typed}
use Rattle.rules.specs.Inner.Findings.{Typing, typed}
use Rattle.rules.specs.Breaks.{BreaksE}
use Rattle.rules.specs.Broken.{ChildE, BrokenE}
use Rattle.rules.specs.Inner.Checking.{named_rule, new_rule, content_rule, numbers_rule}
use Rattle.rules.specs.Inner.Checking.{new_rule_of, content_rule_of, numbers_rule_of}
use Rattle.rules.specs.Inner.Checking.{choose_rule, choose_rule_of, type_in}
use Rattle.rules.proofs.Lists.{by_test}
use Rattle.rules.proofs.Sooner.{Sooner, exactly, smaller}
use Rattle.rules.proofs.Expressions.{complete, FoundE, sound_e}
use Rattle.rules.proofs.Ranges.{root_above_e, range_e}

-- ---- a type, or a fault before frame j
pub data BeforeE (j : ℕ) : Typing → Type 0 where
  found : {a : Typed} → BeforeE j (Ok a)
  before : {r : Refusal} → r.frame < j → BeforeE j (Err r)

-- an expression that ends before frame j has a type or a fault before j
pub before_e : (cells Γ : List ℕ) {lo j : ℕ} {x : Expr} → PlacedE lo x → root_e x < j
    → BeforeE j (type_in cells Γ x)
before_e cells Γ {j = j} {x = x} p l = go (type_in cells Γ x) (sound_e cells Γ x)
  where
    go : (r : Typing) → FoundE cells Γ x r → BeforeE j r
    go (Ok a) h = BeforeE.found
    go (Err r) b = let q = range_e b p in BeforeE.before (omega arith)

-- ---- a child's fault that comes no later than rule n at frame j is the whole's: the first child's
-- at once, a later one's where each child before it has no fault, or one before j.
module _ {n : Rule} {j : ℕ} where
  under_new : (s i : ℕ) {r : Typing} → Sooner n j r → Sooner n j (new_rule s i r)
  unfolding new_rule_of
  under_new s i (Sooner.sooner h) = Sooner.sooner h

  under_content : (i : ℕ) {r : Typing} → Sooner n j r → Sooner n j (content_rule i r)
  unfolding content_rule_of
  under_content i (Sooner.sooner h) = Sooner.sooner h

  under_numbers_a : (w i : ℕ) {r : Typing} (s : Typing) → Sooner n j r
      → Sooner n j (numbers_rule w i r s)
  unfolding numbers_rule_of
  under_numbers_a w i s (Sooner.sooner h) = Sooner.sooner h

  under_numbers_b : (w i : ℕ) {r s : Typing} → BeforeE j r → Sooner n j s
      → Sooner n j (numbers_rule w i r s)
  unfolding numbers_rule_of
  under_numbers_b w i BeforeE.found (Sooner.sooner h) = Sooner.sooner h
  under_numbers_b w i (BeforeE.before l) (Sooner.sooner h) = Sooner.sooner (inl l)

  under_choose_a : (i : ℕ) {r : Typing} (s t : Typing) → Sooner n j r
      → Sooner n j (choose_rule i r s t)
  unfolding choose_rule_of
  under_choose_a i s t (Sooner.sooner h) = Sooner.sooner h

  under_choose_b : (i : ℕ) {r s : Typing} (t : Typing) → BeforeE j r → Sooner n j s
      → Sooner n j (choose_rule i r s t)
  unfolding choose_rule_of
  under_choose_b i t BeforeE.found (Sooner.sooner h) = Sooner.sooner h
  under_choose_b i t (BeforeE.before l) (Sooner.sooner h) = Sooner.sooner (inl l)

  under_choose_c : (i : ℕ) {r s t : Typing} → BeforeE j r → BeforeE j s → Sooner n j t
      → Sooner n j (choose_rule i r s t)
  unfolding choose_rule_of
  under_choose_c i BeforeE.found BeforeE.found (Sooner.sooner h) = Sooner.sooner h
  under_choose_c i BeforeE.found (BeforeE.before l) (Sooner.sooner h) = Sooner.sooner (inl l)
  under_choose_c i (BeforeE.before l) b (Sooner.sooner h) = Sooner.sooner (inl l)

-- ---- a rule that the root breaks: what is found there is that rule, or a smaller number
own_named : (ts : List ℕ) (s i : ℕ) → length ts ≤ s → Sooner Unbound i (named_rule ts s i)
unfolding named_rule
own_named ts s i h = by_test (Sooner Unbound i) (ltb s (length ts)) _ _
    (λ l. absurd (let a : s < length ts = ltb-true _ _ l in omega arith)) (λ l. exactly)

own_numbers : (w i t u : ℕ) (e f : Effect) → ((t ≡ number_type) × (u ≡ number_type) → ⊥)
    → Sooner IllTyped i (numbers_rule w i (typed t e) (typed u f))
unfolding numbers_rule_of
own_numbers w i t u e f z = by_test (Sooner IllTyped i) (eqb t number_type && eqb u number_type) _ _
    (λ p. let q = and_true _ _ p in absurd (z (eqb-true _ _ q.0, eqb-true _ _ q.1))) (λ p. exactly)

own_e : {cells Γ : List ℕ} {x : Expr} {n : Rule} → BreaksE cells Γ x n
    → Sooner n (root_e x) (type_in cells Γ x)
unfolding type_in new_rule_of content_rule_of choose_rule_of
own_e (BreaksE.variable h) = own_named _ _ _ h
own_e (BreaksE.shared h) = own_named _ _ _ h
own_e (BreaksE.new_deep {i = i} {t = t} x h) = rw (complete x)
    (by_test (Sooner IllTyped i) (not (room_around t)) _ _ (λ l. exactly)
    (λ l. absurd (true≢false (sym (not-false _ l) ∙ h))))
own_e (BreaksE.new_escapes {i = i} {s = s} {t = t} ne x o) =
    rw (complete x) (
    by_test (Sooner Escaping i) (not (room_around t)) _ _
    (λ l. smaller IllTyped (omega arith))
    (λ l. by_test (Sooner Escaping i) (eqb s private) _ _ (λ p. absurd (ne (eqb-true _ _ p)))
    (λ p. by_test (Sooner Escaping i) (not (public t)) _ _ (λ q. exactly)
    (λ q. absurd (true≢false (sym (not-false _ q) ∙ o))))))
own_e (BreaksE.content {i = i} {t = t} x h) = rw (complete x)
    (by_test (Sooner IllTyped i) (is_cell t) _ _ (λ l. absurd (true≢false (sym l ∙ h)))
    (λ l. exactly))
own_e (BreaksE.sum x y z) = rw (complete x, complete y) (own_numbers _ _ _ _ _ _ z)
own_e (BreaksE.less x y z) = rw (complete x, complete y) (own_numbers _ _ _ _ _ _ z)
own_e (BreaksE.choose {t = t} {u = u} {v = v} x y z w) =
    rw (complete x, complete y, complete z)
    (by_test (Sooner IllTyped _)
    (eqb t truth_type && eqb u number_type && eqb v number_type) _ _
    (λ p. let q = and_true (eqb t truth_type && eqb u number_type) _ p in
    let r = and_true _ _ q.0 in absurd
    (w (eqb-true _ _ r.0, eqb-true _ _ r.1, eqb-true _ _ q.1))) (λ p. exactly))

-- ---- whatever is broken, at the root or below it
pub least_e : {cells Γ : List ℕ} {lo j : ℕ} {n : Rule} {x : Expr} → BrokenE cells Γ x n j
    → PlacedE lo x
    → Sooner n j (type_in cells Γ x)
unfolding type_in
least_e (BrokenE.here b) p = own_e b
least_e (BrokenE.under ChildE.new b) (PlacedE.new p e) = under_new _ _ (least_e b p)
least_e (BrokenE.under ChildE.content b) (PlacedE.content p e) = under_content _ (least_e b p)
least_e (BrokenE.under ChildE.sum_a b) (PlacedE.sum p q e) = under_numbers_a _ _ _ (least_e b p)
least_e (BrokenE.under ChildE.sum_b b) (PlacedE.sum p q e) =
    let r = range_e b q in under_numbers_b _ _ (before_e _ _ p (omega arith)) (least_e b q)
least_e (BrokenE.under ChildE.less_a b) (PlacedE.less p q e) = under_numbers_a _ _ _ (least_e b p)
least_e (BrokenE.under ChildE.less_b b) (PlacedE.less p q e) =
    let r = range_e b q in under_numbers_b _ _ (before_e _ _ p (omega arith)) (least_e b q)
least_e (BrokenE.under ChildE.choose_a b) (PlacedE.choose p q r e) =
    under_choose_a _ _ _ (least_e b p)
least_e (BrokenE.under ChildE.choose_b b) (PlacedE.choose p q r e) =
    let a = range_e b q in under_choose_b _ _ (before_e _ _ p (omega arith)) (least_e b q)
least_e (BrokenE.under ChildE.choose_c b) (PlacedE.choose p q r e) =
    let a = range_e b r in
    let l = root_above_e q in
    under_choose_c _ (before_e _ _ p (omega arith)) (before_e _ _ q (omega arith)) (least_e b r)
