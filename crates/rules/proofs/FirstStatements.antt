-- Statements: whatever is broken, the finding is a fault no later. Assumes nothing.
use Rattle.std.specs.Prelude.{Ok, Err}
use Rattle.std.proofs.lemmas.Option.{slice_get_past}
use mathlib.Core.Path.{◌≡◌, sym, ◌∙◌}
use mathlib.Core.Logic.{inl}
use mathlib.Core.Bool.{Bool, true, false, not, ◌&&◌, true≢false}
use mathlib.Core.List.{List}
use Prim.Native.Nat.{ℕ, ◌≤◌, ◌<◌}
use native.Mathlib.Omega.{arith}
use lib.Dec.{leb, eqb}
use borrow.Author.Tests.{eqb-true, not-false, le-leb}
use lib.ListN.{length}
use Rattle.basics.specs.Members.{every}
use Rattle.basics.specs.Inner.Searches.{same_numbers}
use Rattle.basics.specs.Members.{In}
use Rattle.basics.proofs.Ifs.{and_true}
use Rattle.language.specs.Places.{private, Standing, unlinked}
use Rattle.language.specs.Types.{truth_type, is_cell, public, content_of}
use Rattle.language.specs.declared.effect.Effect.{Effect}
use Rattle.language.specs.declared.refusal.Rule.{Rule}
use Rattle.language.specs.declared.refusal.Rule.TheVariants.{Unbound, IllTyped, Escaping}
use Rattle.language.specs.declared.refusal.Rule.TheVariants.{WrongEffect, WhileUnlinked}
use Rattle.language.specs.declared.refusal.Rule.TheVariants.{InstantLoop}
use Rattle.language.specs.declared.refusal.Refusal.{Refusal}
use Rattle.program.specs.Trees.{Expr, Stmt, root_s}
use Rattle.layout.proofs.Placed.{PlacedEs, PlacedS}
use Rattle.rules.specs.declared.finding.Ending.{Ending}
use Rattle.rules.specs.Inner.Findings.{Typing, StatementEffect, typed, ending}
use Rattle.rules.specs.Rules.{Setting, Signature, signature_at, AllPublic}
use Rattle.rules.specs.Breaks.{BreaksS, Starts, Signals}
use Rattle.rules.specs.Broken.{BrokenE, Operand, ChildS, BrokenS}
use Rattle.rules.specs.Inner.Checking.{Listed, Argued, listed, argue, types_in, start_rule}
use Rattle.rules.specs.Inner.Checking.{cooperate_rule}
use Rattle.rules.specs.Inner.Checking.{EffectTest}
use Rattle.rules.specs.Inner.Checking.{seq_rule, do_rule, join_rule, let_rule, store_rule}
use Rattle.rules.specs.Inner.Checking.{if_else_rule, while_rule, signal_rule, signal_of, effect_in}
use Rattle.rules.specs.Inner.Checking.{start_rule_of, do_rule_of, store_rule_of, if_else_rule_of}
use Rattle.rules.specs.Inner.Checking.{while_rule_of}
use Rattle.rules.proofs.Sooner.{Sooner, exactly, smaller}
use Rattle.rules.proofs.Lists.{same_true, all_true, by_test}
use Rattle.rules.proofs.Expressions.{complete}
use Rattle.rules.proofs.Statements.{complete_es, complete_s, FoundEs, sound_es, FoundS, sound_s}
use Rattle.rules.proofs.Ranges.{range_e, range_es, root_above_s, range_s}
use Rattle.rules.proofs.FirstExpressions.{BeforeE, before_e, least_e}

-- ---- an effect, or types of arguments, or a fault before frame j
data BeforeS (j : ℕ) : StatementEffect → Type 0 where
  runs : {a : Ending} → BeforeS j (Ok a)
  before : {r : Refusal} → r.frame < j → BeforeS j (Err r)

data BeforeA (j : ℕ) : Argued → Type 0 where
  are : {a : Listed} → BeforeA j (Ok a)
  before : {r : Refusal} → r.frame < j → BeforeA j (Err r)

before_es : (cells Γ : List ℕ) {lo stop : ℕ} {xs : List Expr} → PlacedEs lo xs stop
    → BeforeA stop (types_in cells Γ xs)
before_es cells Γ {stop = stop} {xs = xs} p = go (types_in cells Γ xs) (sound_es cells Γ xs)
  where
    go : (r : Argued) → FoundEs cells Γ xs r → BeforeA stop r
    go (Ok a) h = BeforeA.are
    go (Err r) b = let q = range_es b.among b.broken p in BeforeA.before (omega arith)

before_s : (env : Setting) (below : List Signature) (Γ : List ℕ)
    (at : Standing) {lo j : ℕ} {p : Stmt}
    → PlacedS lo p → root_s p < j → BeforeS j (effect_in env below Γ at p)
before_s env below Γ at {j = j} {p = p} h l = go (effect_in env below Γ at p)
    (sound_s env below Γ at p)
  where
    go : (r : StatementEffect) → FoundS env below Γ at p r → BeforeS j r
    go (Ok a) g = BeforeS.runs
    go (Err r) b = let q = range_s b h in BeforeS.before (omega arith)

-- ---- a child's fault that comes no later than rule n at frame j is the whole's: the first child's
-- at once, a later one's where each child before it has no fault, or one before j.
module _ {n : Rule} {j : ℕ} where
  under_argue_a : {r : Typing} (a : Argued) → Sooner n j r
      → Sooner n j (argue r a)
  unfolding argue
  under_argue_a a (Sooner.sooner h) = Sooner.sooner h

  under_argue_b : {r : Typing} {a : Argued} → BeforeE j r → Sooner n j a
      → Sooner n j (argue r a)
  unfolding argue
  under_argue_b BeforeE.found (Sooner.sooner h) = Sooner.sooner h
  under_argue_b (BeforeE.before l) (Sooner.sooner h) = Sooner.sooner (inl l)

  under_start : (once : Bool) (below : List Signature) (at : Standing) (s i : ℕ) {a : Argued}
      → Sooner n j a → Sooner n j (start_rule once below at s i a)
  unfolding start_rule_of
  under_start once below at s i (Sooner.sooner h) = Sooner.sooner h

  under_seq_a : {r : StatementEffect} (s : StatementEffect) → Sooner n j r → Sooner n j
      (seq_rule r s)
  unfolding seq_rule
  under_seq_a s (Sooner.sooner h) = Sooner.sooner h

  under_seq_b : {r s : StatementEffect} → BeforeS j r → Sooner n j s → Sooner n j (seq_rule r s)
  unfolding seq_rule
  under_seq_b BeforeS.runs (Sooner.sooner h) = Sooner.sooner h
  under_seq_b (BeforeS.before l) (Sooner.sooner h) = Sooner.sooner (inl l)

  under_do : (allows : EffectTest) (at : Standing) (s i : ℕ) {r : StatementEffect}
      → Sooner n j r → Sooner n j (do_rule allows at s i r)
  unfolding do_rule_of
  under_do allows at s i (Sooner.sooner h) = Sooner.sooner h

  under_join : (e : Effect) {r : StatementEffect} → Sooner n j r → Sooner n j (join_rule e r)
  unfolding join_rule
  under_join e (Sooner.sooner h) = Sooner.sooner h

  under_let : (body : List ℕ → StatementEffect) (Γ : List ℕ) {r : Typing} → Sooner n j r
      → Sooner n j (let_rule body Γ r)
  under_let body Γ (Sooner.sooner h) = Sooner.sooner h

  under_store_a : (i : ℕ) {r : Typing} (s : Typing) → Sooner n j r
      → Sooner n j (store_rule i r s)
  unfolding store_rule_of
  under_store_a i s (Sooner.sooner h) = Sooner.sooner h

  under_store_b : (i : ℕ) {r s : Typing} → BeforeE j r → Sooner n j s
      → Sooner n j (store_rule i r s)
  unfolding store_rule_of
  under_store_b i BeforeE.found (Sooner.sooner h) = Sooner.sooner h
  under_store_b i (BeforeE.before l) (Sooner.sooner h) = Sooner.sooner (inl l)

  under_if_else_a : (i : ℕ) {r : Typing} (s t : StatementEffect) → Sooner n j r
      → Sooner n j (if_else_rule i r s t)
  unfolding if_else_rule_of
  under_if_else_a i s t (Sooner.sooner h) = Sooner.sooner h

  under_if_else_b : (i : ℕ) {r : Typing} {s : StatementEffect} (t : StatementEffect) → BeforeE j r
      → Sooner n j s → Sooner n j (if_else_rule i r s t)
  unfolding if_else_rule_of
  under_if_else_b i t BeforeE.found (Sooner.sooner h) = Sooner.sooner h
  under_if_else_b i t (BeforeE.before l) (Sooner.sooner h) = Sooner.sooner (inl l)

  under_if_else_c : (i : ℕ) {r : Typing} {s t : StatementEffect} → BeforeE j r → BeforeS j s
      → Sooner n j t → Sooner n j (if_else_rule i r s t)
  unfolding if_else_rule_of
  under_if_else_c i BeforeE.found BeforeS.runs (Sooner.sooner h) = Sooner.sooner h
  under_if_else_c i BeforeE.found (BeforeS.before l) (Sooner.sooner h) = Sooner.sooner (inl l)
  under_if_else_c i (BeforeE.before l) b (Sooner.sooner h) = Sooner.sooner (inl l)

  under_while_a : (i : ℕ) {r : Typing} (s : StatementEffect) → Sooner n j r
      → Sooner n j (while_rule i r s)
  unfolding while_rule_of
  under_while_a i s (Sooner.sooner h) = Sooner.sooner h

  under_while_b : (i : ℕ) {r : Typing} {s : StatementEffect} → BeforeE j r → Sooner n j s
      → Sooner n j (while_rule i r s)
  unfolding while_rule_of
  under_while_b i BeforeE.found (Sooner.sooner h) = Sooner.sooner h
  under_while_b i (BeforeE.before l) (Sooner.sooner h) = Sooner.sooner (inl l)

-- whatever is broken in one of the arguments
least_es : {cells Γ : List ℕ} {x : Expr} {lo stop j : ℕ} {n : Rule} {xs : List Expr} → In x xs
    → BrokenE cells Γ x n j → PlacedEs lo xs stop → Sooner n j (types_in cells Γ xs)
unfolding types_in
least_es In.first b (PlacedEs.more p q) = under_argue_a _ (least_e b p)
least_es (In.later i) b (PlacedEs.more p q) =
    let r = range_es i b q in under_argue_b (before_e _ _ p (omega arith)) (least_es i b q)

-- ---- a rule that the root breaks: what is found is that rule, a smaller number there, or an
-- earlier fault
module _ (once : Bool) (below : List Signature) (at : Standing) (s i : ℕ) where
  own_module : {a : Argued} → BeforeA i a → length below ≤ s
      → Sooner Unbound i (start_rule once below at s i a)
  unfolding start_rule_of
  own_module BeforeA.are h = by_test (Sooner Unbound i) (leb (length below) s) _ _ (λ l. exactly)
      (λ l. absurd (true≢false (sym (le-leb _ _ h) ∙ l)))
  own_module (BeforeA.before l) h = Sooner.sooner (inl l)

  own_types : (ts : List ℕ) (e : Effect) → s < length below →
      (ts ≡ (signature_at below s).types → ⊥)
      → Sooner IllTyped i (start_rule once below at s i (listed ts e))
  unfolding start_rule_of
  own_types ts e h z =
      by_test (Sooner IllTyped i) (leb (length below) s) _ _
      (λ l. smaller Unbound (omega arith))
      (λ l. by_test (Sooner IllTyped i) (not (same_numbers ts (signature_at below s).types)) _ _
      (λ m. exactly) (λ m. absurd (z (same_true _ _ (not-false _ m)))))

  own_escapes : (ts : List ℕ) (e : Effect) → (AllPublic ts → ⊥)
      → Sooner Escaping i (start_rule once below at s i (listed ts e))
  unfolding start_rule_of
  own_escapes ts e z =
      by_test (Sooner Escaping i) (leb (length below) s) _ _
      (λ l. smaller Unbound (omega arith))
      (λ l. by_test (Sooner Escaping i) (not (same_numbers ts (signature_at below s).types)) _ _
      (λ m. smaller IllTyped (omega arith))
      (λ m. by_test (Sooner Escaping i) (not (every public ts)) _ _ (λ o. exactly)
      (λ o. absurd (z (all_true public _ (not-false _ o))))))

own_unlinked : (once : Bool) (below : List Signature) (s i : ℕ) {a : Argued} → BeforeA i a
    → Sooner WhileUnlinked i (start_rule once below unlinked s i a)
unfolding start_rule_of
own_unlinked once below s i (BeforeA.are {a = a}) =
    by_test (Sooner WhileUnlinked i) (leb (length below) s) _ _
    (λ l. smaller Unbound (omega arith))
    (λ l. by_test (Sooner WhileUnlinked i)
    (not (same_numbers a.types (signature_at below s).types)) _ _
    (λ m. smaller IllTyped (omega arith))
    (λ m. by_test (Sooner WhileUnlinked i) (not (every public a.types)) _ _
    (λ o. smaller Escaping (omega arith))
    (λ o. exactly)))
own_unlinked once below s i (BeforeA.before l) = Sooner.sooner (inl l)

own_effect : (allows : EffectTest) (at : Standing) (s i : ℕ) (e : Effect) (a : Bool)
    → allows s e ≡ false → Sooner WrongEffect i (do_rule allows at s i (ending e a))
unfolding do_rule_of
own_effect allows at s i e a h = by_test (Sooner WrongEffect i) (not (allows s e)) _ _
    (λ l. exactly) (λ l. absurd (true≢false (sym (not-false _ l) ∙ h)))

own_do_unlinked : (allows : EffectTest) (i : ℕ) {r : StatementEffect} → BeforeS i r
    → Sooner WhileUnlinked i (do_rule allows unlinked private i r)
unfolding do_rule_of
own_do_unlinked allows i (BeforeS.runs {a = a}) = by_test (Sooner WhileUnlinked i)
    (not (allows private a.effect)) _ _ (λ l. smaller WrongEffect (omega arith)) (λ l. exactly)
own_do_unlinked allows i (BeforeS.before l) = Sooner.sooner (inl l)

own_store : (i t u : ℕ) (e f : Effect) → ((is_cell t ≡ true) × (u ≡ content_of t) → ⊥)
    → Sooner IllTyped i (store_rule i (typed t e) (typed u f))
unfolding store_rule_of
own_store i t u e f z = by_test (Sooner IllTyped i) (is_cell t && eqb u (content_of t)) _ _
    (λ p. let q = and_true _ _ p in absurd (z (q.0, eqb-true _ _ q.1))) (λ p. exactly)

own_if_else : (i t : ℕ) (e : Effect) {r s : StatementEffect} → (t ≡ truth_type → ⊥) → BeforeS i r
    → BeforeS i s → Sooner IllTyped i (if_else_rule i (typed t e) r s)
unfolding if_else_rule_of
own_if_else i t e z BeforeS.runs BeforeS.runs = by_test (Sooner IllTyped i) (eqb t truth_type) _ _
    (λ p. absurd (z (eqb-true _ _ p))) (λ p. exactly)
own_if_else i t e z BeforeS.runs (BeforeS.before l) = Sooner.sooner (inl l)
own_if_else i t e z (BeforeS.before l) q = Sooner.sooner (inl l)

own_while : (i t : ℕ) (e : Effect) {r : StatementEffect} → (t ≡ truth_type → ⊥) → BeforeS i r
    → Sooner IllTyped i (while_rule i (typed t e) r)
unfolding while_rule_of
own_while i t e z BeforeS.runs = by_test (Sooner IllTyped i) (not (eqb t truth_type)) _ _
    (λ p. exactly) (λ p. absurd (z (eqb-true _ _ (not-false _ p))))
own_while i t e z (BeforeS.before l) = Sooner.sooner (inl l)

own_body : (i : ℕ) (f : Effect) {r : Typing} → BeforeE i r
    → Sooner InstantLoop i (while_rule i r (ending f true))
unfolding while_rule_of
own_body i f (BeforeE.found {a = a}) = by_test (Sooner InstantLoop i)
    (not (eqb a.type_word truth_type)) _ _ (λ p. smaller IllTyped (omega arith)) (λ p. exactly)
own_body i f (BeforeE.before l) = Sooner.sooner (inl l)

own_event : (owners : List ℕ) (s i : ℕ) → length owners ≤ s
    → Sooner Unbound i (signal_of owners s i)
unfolding signal_rule
own_event owners s i h = rw (slice_get_past owners s h) exactly

own_s : {env : Setting} {below : List Signature} {Γ : List ℕ} {at : Standing} {lo : ℕ} {n : Rule}
    {p : Stmt}
    → BreaksS env below Γ at p n → PlacedS lo p
    → Sooner n (root_s p) (effect_in env below Γ at p)
unfolding effect_in cooperate_rule
own_s (BreaksS.start_module Starts.start h) (PlacedS.start p) =
    own_module _ _ _ _ _ (before_es _ _ p) h
own_s (BreaksS.start_module Starts.start_wait h) (PlacedS.start_wait p) =
    own_module _ _ _ _ _ (before_es _ _ p) h
own_s {env = env} (BreaksS.event Signals.generate h) p = own_event env.events _ _ h
own_s {env = env} (BreaksS.event Signals.await h) p = own_event env.events _ _ h
own_s (BreaksS.start_types Starts.start h xs z) (PlacedS.start p) =
    rw (complete_es xs) (own_types _ _ _ _ _ _ _ h z)
own_s (BreaksS.start_types Starts.start_wait h xs z) (PlacedS.start_wait p) =
    rw (complete_es xs) (own_types _ _ _ _ _ _ _ h z)
own_s (BreaksS.store x y z) (PlacedS.store p q e) =
    rw (complete x, complete y) (own_store _ _ _ _ _ z)
own_s (BreaksS.if_else x z) (PlacedS.if_else p q r e) =
    let a = root_above_s r in
    rw (complete x)
    (own_if_else _ _ _ z (before_s _ _ _ _ q (omega arith)) (before_s _ _ _ _ r (omega arith)))
own_s (BreaksS.while x z) (PlacedS.while p q e) =
    rw (complete x) (own_while _ _ _ z (before_s _ _ _ _ q (omega arith)))
own_s (BreaksS.start_escapes Starts.start xs z) (PlacedS.start p) =
    rw (complete_es xs) (own_escapes _ _ _ _ _ _ _ z)
own_s (BreaksS.start_escapes Starts.start_wait xs z) (PlacedS.start_wait p) =
    rw (complete_es xs) (own_escapes _ _ _ _ _ _ _ z)
own_s (BreaksS.do_effect r h) (PlacedS.do_at p e) = rw (complete_s r) (own_effect _ _ _ _ _ _ h)
own_s (BreaksS.start_unlinked Starts.start) (PlacedS.start p) = own_unlinked _ _ _ _
    (before_es _ _ p)
own_s (BreaksS.start_unlinked Starts.start_wait) (PlacedS.start_wait p) =
    own_unlinked _ _ _ _ (before_es _ _ p)
own_s BreaksS.cooperate_unlinked p = exactly
own_s BreaksS.do_unlinked (PlacedS.do_at p e) = own_do_unlinked _ _ (before_s _ _ _ _ p e)
own_s (BreaksS.while_body r) (PlacedS.while p q e) =
    let a = root_above_s q in rw (complete_s r) (own_body _ _ (before_e _ _ p (omega arith)))

-- ---- whatever is broken, at the root or below it
pub least_s : {env : Setting} {below : List Signature} {Γ : List ℕ} {at : Standing} {lo j : ℕ}
    {n : Rule} {p : Stmt}
    → BrokenS env below Γ at p n j → PlacedS lo p → Sooner n j (effect_in env below Γ at p)
unfolding effect_in
least_s (BrokenS.here b) p = own_s b p
least_s (BrokenS.operand (Operand.argument Starts.start i) b) (PlacedS.start p) =
    under_start _ _ _ _ _ (least_es i b p)
least_s (BrokenS.operand (Operand.argument Starts.start_wait i) b) (PlacedS.start_wait p) =
    under_start _ _ _ _ _ (least_es i b p)
least_s {env = env} {below = below} {Γ = Γ} {at = at} (BrokenS.operand Operand.let_in b)
    (PlacedS.let_in {p = s} p q e) =
    under_let (λ Γ. effect_in env below Γ at s) Γ (least_e b p)
least_s (BrokenS.operand Operand.store_a b) (PlacedS.store p q e) = under_store_a _ _ (least_e b p)
least_s (BrokenS.operand Operand.store_b b) (PlacedS.store p q e) =
    let a = range_e b q in under_store_b _ (before_e _ _ p (omega arith)) (least_e b q)
least_s (BrokenS.operand Operand.if_else b) (PlacedS.if_else p q r e) =
    under_if_else_a _ _ _ (least_e b p)
least_s (BrokenS.operand Operand.while b) (PlacedS.while p q e) = under_while_a _ _ (least_e b p)
least_s (BrokenS.under ChildS.seq_a b) (PlacedS.seq p q e) = under_seq_a _ (least_s b p)
least_s (BrokenS.under ChildS.seq_b b) (PlacedS.seq p q e) =
    let a = range_s b q in under_seq_b (before_s _ _ _ _ p (omega arith)) (least_s b q)
least_s (BrokenS.under ChildS.do_at b) (PlacedS.do_at p e) = under_do _ _ _ _ (least_s b p)
least_s (BrokenS.under (ChildS.let_in h) b) (PlacedS.let_in p q e) =
    rw (complete h) (under_join _ (least_s b q))
least_s (BrokenS.under ChildS.if_else_b b) (PlacedS.if_else p q r e) =
    let a = range_s b q in under_if_else_b _ _ (before_e _ _ p (omega arith)) (least_s b q)
least_s (BrokenS.under ChildS.if_else_c b) (PlacedS.if_else p q r e) =
    let a = range_s b r in
    let c = root_above_s q in
    under_if_else_c _ (before_e _ _ p (omega arith)) (before_s _ _ _ _ q (omega arith))
    (least_s b r)
least_s (BrokenS.under ChildS.while b) (PlacedS.while p q e) =
    let a = range_s b q in under_while_b _ (before_e _ _ p (omega arith)) (least_s b q)
