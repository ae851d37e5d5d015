-- Expressions: what has a type is found to have it (complete), and whatever is found holds (sound).
-- Assumes nothing.
use Rattle.std.specs.Prelude.{Ok, Err}
use mathlib.Core.Path.{◌≡◌, refl}
use mathlib.Core.Bool.{Bool, true, not, ◌&&◌}
use mathlib.Core.List.{List}
use Prim.Native.Nat.{ℕ, ◌≤◌, ◌<◌}
use lib.Dec.{ltb, eqb}
use borrow.Author.Tests.{ltb-true, ltb-false, eqb-true, eqb-false, not-true, not-false, lt-ltb}
use borrow.Author.Tests.{eq-eqb, ne_eqb}
use lib.ListN.{length, get_or}
use Rattle.basics.proofs.Ifs.{and_true, and_false}
use Rattle.language.specs.Places.{private}
use Rattle.language.specs.Types.{number_type, truth_type, is_cell, room_around, public, cell_type}
use Rattle.language.specs.Effects.{no_effect, ◌∪◌}
use Rattle.language.specs.declared.effect.Effect.{Effect}
use Rattle.language.specs.declared.refusal.Rule.TheVariants.{Unbound, IllTyped}
use Rattle.program.specs.Trees.{Expr, root_e}
use Rattle.rules.specs.Inner.Findings.{Typing, typed}
use Rattle.rules.specs.Rules.{HasType}
use Rattle.rules.specs.Breaks.{BreaksE}
use Rattle.rules.specs.Broken.{ChildE, BrokenE}
use Rattle.rules.specs.Inner.Checking.{named_rule, new_rule, content_rule, numbers_rule}
use Rattle.rules.specs.Inner.Checking.{new_rule_of, content_rule_of, numbers_rule_of}
use Rattle.rules.specs.Inner.Checking.{choose_rule, choose_rule_of, type_in}
use Rattle.rules.proofs.Lists.{by_test}

-- ---- whatever has a type is found to have it
pub complete : {cells Γ : List ℕ} {x : Expr} {t : ℕ} {e : Effect} → HasType cells Γ x t e
    → type_in cells Γ x ≡ typed t e
unfolding type_in named_rule new_rule_of content_rule_of numbers_rule_of choose_rule_of
complete HasType.number = refl
complete HasType.truth = refl
complete (HasType.variable h) = simp (lt-ltb _ _ h)
complete (HasType.shared h) = simp (lt-ltb _ _ h)
complete (HasType.new_private x h) = simp (complete x, h)
complete (HasType.new_public s x h o) = simp (complete x, h, ne_eqb _ _ s, o)
complete (HasType.content x h) = simp (complete x, h)
complete (HasType.sum x y) = rw (complete x, complete y)
complete (HasType.less x y) = rw (complete x, complete y)
complete (HasType.choose x y z) = rw (complete x, complete y, complete z)

-- ---- whatever is found holds

-- what the finding says of x: that it has that type and effect, or that the frame breaks the rule
abbrev pub FoundE : List ℕ → List ℕ → Expr → Typing → Type 0
FoundE cells Γ x (Ok a) = HasType cells Γ x a.type_word a.effect
FoundE cells Γ x (Err r) = BrokenE cells Γ x r.rule r.frame

pub retype : {cells Γ : List ℕ} {x : Expr} {t u : ℕ} {e : Effect} → t ≡ u → HasType cells Γ x t e
    → HasType cells Γ x u e
retype p x = rw p at x

-- The answer of each rule holds, where what was found of the children holds.

-- 26 and 27: z is made of x and y, which are to be numbers
found_numbers : {cells Γ : List ℕ} (z x y : Expr) (w : ℕ) → ChildE z x → ChildE z y
    → ((e f : Effect) → HasType cells Γ x number_type e → HasType cells Γ y number_type f
    → HasType cells Γ z w (e ∪ f))
    → ((t u : ℕ) (e f : Effect) → HasType cells Γ x t e → HasType cells Γ y u f →
    ((t ≡ number_type) × (u ≡ number_type) → ⊥) → BreaksE cells Γ z IllTyped)
    → (r s : Typing) → FoundE cells Γ x r → FoundE cells Γ y s
    → FoundE cells Γ z (numbers_rule w (root_e z) r s)
unfolding numbers_rule_of
found_numbers z x y w in_x in_y types breaks (Err a) s b c = BrokenE.under in_x b
found_numbers z x y w in_x in_y types breaks (Ok a) (Err b) g c = BrokenE.under in_y c
found_numbers {cells} {Γ} z x y w in_x in_y types breaks (Ok a) (Ok b) g h =
    by_test (FoundE cells Γ z) (eqb a.type_word number_type && eqb b.type_word number_type) _ _
    (λ p. let q = and_true _ _ p in types a.effect b.effect (retype (eqb-true _ _ q.0) g)
    (retype (eqb-true _ _ q.1) h))
    (λ p. BrokenE.here (breaks a.type_word b.type_word a.effect b.effect g h
    (λ z. and_false _ _ p (eq-eqb _ _ z.0) (eq-eqb _ _ z.1))))

-- 22 and 23: x names the s-th of ts
found_named : {cells Γ : List ℕ} (x : Expr) (ts : List ℕ) (s : ℕ)
    → (s < length ts → HasType cells Γ x (get_or ts s 0) no_effect)
    → (length ts ≤ s → BreaksE cells Γ x Unbound) → FoundE cells Γ x (named_rule ts s (root_e x))
unfolding named_rule
found_named {cells} {Γ} x ts s types breaks = by_test (FoundE cells Γ x) (ltb s (length ts)) _ _
    (λ h. types (ltb-true _ _ h)) (λ h. BrokenE.here (breaks (ltb-false _ _ h)))

module _ (cells Γ : List ℕ) (i : ℕ) where
  new_private : (s : ℕ) (x : Expr) (t : ℕ) (e : Effect) → s ≡ private → HasType cells Γ x t e
      → room_around t ≡ true → HasType cells Γ (Expr.new i s x) (cell_type s t) e
  new_private s x t e p h l = rw p (HasType.new_private h l)

  found_new : (s : ℕ) (x : Expr) (r : Typing) → FoundE cells Γ x r
      → FoundE cells Γ (Expr.new i s x) (new_rule s i r)
  unfolding new_rule_of
  found_new s x (Err a) b = BrokenE.under ChildE.new b
  found_new s x (Ok a) h =
      let test = by_test (FoundE cells Γ (Expr.new i s x)) in
      test (not (room_around a.type_word)) _ _
      (λ l. BrokenE.here (BreaksE.new_deep h (not-true _ l)))
      (λ l. test (eqb s private) _ _
      (λ p. new_private s x a.type_word a.effect (eqb-true _ _ p) h (not-false _ l))
      (λ p. test (not (public a.type_word)) _ _
      (λ o. BrokenE.here (BreaksE.new_escapes (eqb-false _ _ p) h (not-true _ o)))
      (λ o. HasType.new_public (eqb-false _ _ p) h (not-false _ l) (not-false _ o))))

  found_content : (x : Expr) (r : Typing) → FoundE cells Γ x r
      → FoundE cells Γ (Expr.content i x) (content_rule i r)
  unfolding content_rule_of
  found_content x (Err a) b = BrokenE.under ChildE.content b
  found_content x (Ok a) h = by_test (FoundE cells Γ (Expr.content i x)) (is_cell a.type_word) _ _
      (λ l. HasType.content h l) (λ l. BrokenE.here (BreaksE.content h l))

  found_choose : (x y z : Expr) (r s t : Typing) → FoundE cells Γ x r → FoundE cells Γ y s
      → FoundE cells Γ z t → FoundE cells Γ (Expr.choose i x y z) (choose_rule i r s t)
  unfolding choose_rule_of
  found_choose x y z (Err a) s t b c d = BrokenE.under ChildE.choose_a b
  found_choose x y z (Ok a) (Err r) s b c d = BrokenE.under ChildE.choose_b c
  found_choose x y z (Ok a) (Ok o) (Err r) b c d = BrokenE.under ChildE.choose_c d
  found_choose x y z (Ok t) (Ok u) (Ok v) b c d =
      by_test (FoundE cells Γ (Expr.choose i x y z))
      (eqb t.type_word truth_type && eqb u.type_word number_type && eqb v.type_word number_type) _ _
      (λ p. let q = and_true (eqb t.type_word truth_type && eqb u.type_word number_type) _ p in
      let r = and_true _ _ q.0 in HasType.choose (retype (eqb-true _ _ r.0) b)
      (retype (eqb-true _ _ r.1) c) (retype (eqb-true _ _ q.1) d))
      (λ p. BrokenE.here (BreaksE.choose b c d
      (λ w. and_false (eqb t.type_word truth_type && eqb u.type_word number_type) _ p
      (both_true _ _ (eq-eqb _ _ w.0) (eq-eqb _ _ w.1)) (eq-eqb _ _ w.2))))
    where
      both_true : (a b : Bool) → a ≡ true → b ≡ true → (a && b) ≡ true
      both_true a b p q = rw p q

pub sound_e : (cells Γ : List ℕ) (x : Expr) → FoundE cells Γ x (type_in cells Γ x)
unfolding type_in
sound_e cells Γ (Expr.number i v) = HasType.number
sound_e cells Γ (Expr.truth i v) = HasType.truth
sound_e cells Γ (Expr.variable i s) =
    found_named (Expr.variable i s) Γ s (λ l. HasType.variable l) (λ l. BreaksE.variable l)
sound_e cells Γ (Expr.shared i s) =
    found_named (Expr.shared i s) cells s (λ l. HasType.shared l) (λ l. BreaksE.shared l)
sound_e cells Γ (Expr.new i s x) = found_new cells Γ i s x _ (sound_e cells Γ x)
sound_e cells Γ (Expr.content i x) = found_content cells Γ i x _ (sound_e cells Γ x)
sound_e cells Γ (Expr.sum i x y) = found_numbers (Expr.sum i x y) x y _ ChildE.sum_a ChildE.sum_b
    (λ e f g h. HasType.sum g h) (λ t u e f g h z. BreaksE.sum g h z) _ _ (sound_e cells Γ x)
    (sound_e cells Γ y)
sound_e cells Γ (Expr.less i x y) = found_numbers
    (Expr.less i x y) x y _ ChildE.less_a ChildE.less_b (λ e f g h. HasType.less g h)
    (λ t u e f g h z. BreaksE.less g h z) _ _ (sound_e cells Γ x) (sound_e cells Γ y)
sound_e cells Γ (Expr.choose i x y z) =
    found_choose cells Γ i x y z _ _ _ (sound_e cells Γ x) (sound_e cells Γ y) (sound_e cells Γ z)
