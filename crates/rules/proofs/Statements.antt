-- Statements: what the rules give is found (complete), and whatever is found holds (sound). Assumes
-- nothing.
use Rattle.std.specs.Prelude.{Ok, Err, if◌then◌else◌}
use Rattle.std.proofs.lemmas.Option.{slice_get_past, slice_get-get_or}
use mathlib.Core.Path.{◌≡◌, refl, sym, ◌∙◌}
use mathlib.Core.Bool.{Bool, true, false, not, ◌&&◌, true≢false}
use mathlib.Core.List.{List, [], ◌∷◌, ◌++◌}
use Prim.Native.Nat.{ℕ, ◌<◌}
use lib.Dec.{ltb, leb, eqb}
use borrow.Author.Tests.{leb-true, leb-false, eqb-true, eqb-false, not-true, not-false, lt-leb}
use borrow.Author.Tests.{eq-eqb, ne_eqb, ltb-true, ltb-false}
use lib.ListN.{length, get_or}
use Rattle.basics.specs.Members.{every}
use Rattle.basics.specs.Inner.Searches.{same_numbers}
use Rattle.basics.specs.Members.{In}
use Rattle.basics.proofs.Ifs.{and_true, and_false, if_yes, if_no, and_off}
use Rattle.language.specs.Places.{private, Standing, linked, unlinked, standing_at}
use Rattle.language.specs.Types.{truth_type, is_cell, public, content_of}
use Rattle.language.specs.Effects.{no_effect, ◌∪◌, with_event, within}
use Rattle.language.specs.declared.effect.Effect.{Effect}
use Rattle.language.specs.declared.refusal.Rule.{Rule}
use Rattle.language.specs.declared.refusal.Rule.TheVariants.{WhileUnlinked, InstantLoop}
use Rattle.program.specs.Trees.{Expr, Stmt, root_s}
use Rattle.rules.specs.Inner.Findings.{Typing, StatementEffect, ending, fault}
use Rattle.rules.specs.Rules.{Setting, HasType, Signature, signature_at, HaveTypes, AllPublic}
use Rattle.rules.specs.Rules.{HasEffect}
use Rattle.rules.specs.Breaks.{BreaksS, Starts, Signals}
use Rattle.rules.specs.Broken.{BrokenE, Operand, ChildS, BrokenS}
use Rattle.rules.specs.Inner.Checking.{type_in, Argued, listed, argue, types_in, is_linked}
use Rattle.rules.specs.Inner.Checking.{start_rule}
use Rattle.rules.specs.Inner.Checking.{cooperate_rule, seq_rule, do_rule, join_rule, let_rule}
use Rattle.rules.specs.Inner.Checking.{store_rule, if_else_rule, while_rule, signal_rule, signal_of}
use Rattle.rules.specs.Inner.Checking.{effect_in}
use Rattle.rules.specs.Inner.Checking.{start_rule_of, do_rule_of, store_rule_of, if_else_rule_of}
use Rattle.rules.specs.Inner.Checking.{while_rule_of}
use Rattle.rules.proofs.Lists.{same_true, same_refl, same_eq, all_true, all_every, by_test}
use Rattle.rules.proofs.Expressions.{complete, FoundE, sound_e, retype}

-- ---- standing
stands_linked : (s : ℕ) → (s ≡ private → ⊥) → standing_at s ≡ linked
unfolding standing_at
stands_linked s h = if_no _ _ (ne_eqb _ _ h)

stands_unlinked : standing_at private ≡ unlinked
unfolding standing_at
stands_unlinked = if_yes _ _ refl

-- ---- whatever the rules give is found
pub complete_es : {cells Γ : List ℕ} {xs : List Expr} {ts : List ℕ} {e : Effect}
    → HaveTypes cells Γ xs ts e → types_in cells Γ xs ≡ listed ts e
unfolding types_in argue
complete_es HaveTypes.none = refl
complete_es (HaveTypes.more x xs) = rw (complete x, complete_es xs)

pub complete_s : {env : Setting} {below : List Signature} {Γ : List ℕ} {at : Standing} {p : Stmt}
    {e : Effect} {b : Bool}
    → HasEffect env below Γ at p e b → effect_in env below Γ at p ≡ ending e b
unfolding effect_in start_rule_of cooperate_rule seq_rule do_rule_of join_rule store_rule_of
    if_else_rule_of while_rule_of signal_rule
complete_s HasEffect.nothing = refl
complete_s (HasEffect.seq p q) = rw (complete_s p, complete_s q)
complete_s (HasEffect.do_unlinked p h) = rw stands_unlinked (simp (complete_s p, h))
complete_s (HasEffect.do_linked s p h) =
    rw (stands_linked _ s) (simp (complete_s p, h, ne_eqb _ _ s, and_off))
complete_s (HasEffect.start h xs a) = simp
    (complete_es xs, lt-leb _ _ h, same_refl, all_every public a)
complete_s (HasEffect.start_wait h xs a) =
    simp (complete_es xs, lt-leb _ _ h, same_refl, all_every public a)
complete_s HasEffect.cooperate = refl
complete_s (HasEffect.let_in x p) = rw (complete x) (rw (complete_s p))
complete_s (HasEffect.store {t =
    t} x h y) = simp (complete x, complete y, h, eq-eqb (content_of t) (content_of t) refl)
complete_s (HasEffect.if_else x p q) = rw (complete x, complete_s p, complete_s q)
complete_s (HasEffect.while x p) = rw (complete x, complete_s p)
complete_s (HasEffect.generate h) = rw (slice_get-get_or _ _ 0 h)
complete_s (HasEffect.await h) = rw (slice_get-get_or _ _ 0 h)

-- ---- whatever is found holds: first of arguments, then of a statement

-- frame j of one of the expressions breaks rule n
pub record BrokenArgument (cells Γ : List ℕ) (xs : List Expr) (n : Rule) (j : ℕ) : Type 0 where
  pub argument : Expr
  pub among : In argument xs
  pub broken : BrokenE cells Γ argument n j

abbrev pub FoundEs : List ℕ → List ℕ → List Expr → Argued → Type 0
FoundEs cells Γ xs (Ok a) = HaveTypes cells Γ xs a.types a.effect
FoundEs cells Γ xs (Err r) = BrokenArgument cells Γ xs r.rule r.frame

found_argue : (cells Γ : List ℕ) (x : Expr) (xs : List Expr) (r : Typing) (a : Argued)
    → FoundE cells Γ x r → FoundEs cells Γ xs a → FoundEs cells Γ (x ∷ xs) (argue r a)
unfolding argue
found_argue cells Γ x xs (Ok a) (Ok b) h g = HaveTypes.more h g
found_argue cells Γ x xs (Ok a) (Err r) h g =
    record { argument = g.argument; among = In.later g.among; broken = g.broken }
found_argue cells Γ x xs (Err r) a h g = record { argument = x; among = In.first; broken = h }

pub sound_es : (cells Γ : List ℕ) (xs : List Expr) → FoundEs cells Γ xs (types_in cells Γ xs)
unfolding types_in
sound_es cells Γ [] = HaveTypes.none
sound_es cells Γ (x ∷ xs) = found_argue cells Γ x xs _ _ (sound_e cells Γ x) (sound_es cells Γ xs)

abbrev pub FoundS : Setting → List Signature → List ℕ → Standing → Stmt → StatementEffect → Type 0
FoundS env below Γ at p (Ok a) = HasEffect env below Γ at p a.effect a.at_once
FoundS env below Γ at p (Err r) = BrokenS env below Γ at p r.rule r.frame

retypes : {cells Γ : List ℕ} {xs : List Expr} {ts us : List ℕ} {e : Effect} → ts ≡ us
    → HaveTypes cells Γ xs ts e → HaveTypes cells Γ xs us e
retypes p x = rw p at x

republic : {ts us : List ℕ} → ts ≡ us → AllPublic ts → AllPublic us
republic p x = rw p at x

-- the answer of each rule holds, where what was found of the children holds
module _ (env : Setting) (below : List Signature) (Γ : List ℕ) where
  found_cooperate : (at : Standing) (i : ℕ)
      → FoundS env below Γ at (Stmt.cooperate i) (cooperate_rule at i)
  unfolding cooperate_rule
  found_cooperate linked i = HasEffect.cooperate
  found_cooperate unlinked i = BrokenS.here BreaksS.cooperate_unlinked

  found_seq : (at : Standing) (i : ℕ) (p q : Stmt) (r s : StatementEffect)
      → FoundS env below Γ at p r
      → FoundS env below Γ at q s → FoundS env below Γ at (Stmt.seq i p q) (seq_rule r s)
  unfolding seq_rule
  found_seq at i p q (Ok a) (Ok b) h g = HasEffect.seq h g
  found_seq at i p q (Ok a) (Err r) h g = BrokenS.under ChildS.seq_b g
  found_seq at i p q (Err r) s h g = BrokenS.under ChildS.seq_a h

  -- 13 and 14: p starts module s with the arguments xs
  found_start : (at : Standing) (p : Stmt) (s : ℕ) (xs : List Expr) (once : Bool) → Starts p s xs
      → ((e : Effect) → s < length below → HaveTypes env.cells Γ xs (signature_at below s).types e
      → AllPublic (signature_at below s).types → HasEffect env below Γ linked p
      (e ∪ (signature_at below s).effect) once)
      → (a : Argued) → FoundEs env.cells Γ xs a
      → FoundS env below Γ at p (start_rule once below at s (root_s p) a)
  unfolding start_rule_of
  found_start at p s xs once st runs (Err r) b =
      BrokenS.operand (Operand.argument st b.among) b.broken
  found_start at p s xs once st runs (Ok a) h =
      let test = by_test (FoundS env below Γ at p) in
      test (leb (length below) s) _ _ (λ l. BrokenS.here (BreaksS.start_module st (leb-true _ _ l)))
      (λ l. test (not (same_numbers a.types (signature_at below s).types)) _ _
      (λ m. BrokenS.here (BreaksS.start_types st (leb-false _ _ l) h
      (λ z. true≢false (sym (same_eq _ _ z) ∙ not-true _ m))))
      (λ m. test (not (every public a.types)) _ _
      (λ o. BrokenS.here (BreaksS.start_escapes st h
      (λ z. true≢false (sym (all_every public z) ∙ not-true _ o))))
      (λ o. test (not (is_linked at)) _ _ (λ k. is_unlinked at (not-true _ k))
      (λ k. is_linked_lem at (not-false _ k) (leb-false _ _ l) (same_true _ _ (not-false _ m))
      (all_true public _ (not-false _ o))))))
    where
      is_unlinked : (at : Standing) → is_linked at ≡ false
          → FoundS env below Γ at p (fault WhileUnlinked (root_s p))
      is_unlinked linked k = absurd (true≢false k)
      is_unlinked unlinked k = BrokenS.here (BreaksS.start_unlinked st)

      is_linked_lem : (at : Standing) → is_linked at ≡ true → s < length below
          → a.types ≡ (signature_at below s).types → AllPublic a.types
          → FoundS env below Γ at p (ending (a.effect ∪ (signature_at below s).effect) once)
      is_linked_lem linked k l m o = runs a.effect l (retypes m h) (republic m o)
      is_linked_lem unlinked k l m o = absurd (true≢false (sym k))

  do_breaks : (i s : ℕ) (p : Stmt) → s ≡ private
      → BreaksS env below Γ unlinked (Stmt.do_at i s p) WhileUnlinked
  do_breaks i s p e = rw e BreaksS.do_unlinked

  do_unlinked : (i s : ℕ) (p : Stmt) (e : Effect) (a : Bool) → s ≡ private
      → HasEffect env below Γ (standing_at s) p e a → within env.links s e ≡ true
      → HasEffect env below Γ linked (Stmt.do_at i s p) no_effect a
  do_unlinked i s p e a z r h =
      rw z (HasEffect.do_unlinked (rw stands_unlinked at (rw z at r)) (rw z at h))

  do_linked : (at : Standing) (i s : ℕ) (p : Stmt) (e : Effect) (a : Bool) → (s ≡ private → ⊥)
      → HasEffect env below Γ (standing_at s) p e a → within env.links s e ≡ true
      → HasEffect env below Γ at (Stmt.do_at i s p) no_effect a
  do_linked at i s p e a z r h = HasEffect.do_linked z (rw (stands_linked s z) at r) h

  -- 12, where the effect lies within the place
  do_rest : (i s : ℕ) (p : Stmt) (e : Effect) (a : Bool) → HasEffect env below Γ
      (standing_at s) p e a
      → within env.links s e ≡ true → (at : Standing) (b : Bool) → eqb s private ≡ b
      → FoundS env below Γ at (Stmt.do_at i s p)
      (if not (is_linked at) && b then fault WhileUnlinked i else ending no_effect a)
  do_rest i s p e a h l linked true q = do_unlinked i s p e a (eqb-true _ _ q) h l
  do_rest i s p e a h l linked false q = do_linked linked i s p e a (eqb-false _ _ q) h l
  do_rest i s p e a h l unlinked true q = BrokenS.here (do_breaks i s p (eqb-true _ _ q))
  do_rest i s p e a h l unlinked false q = do_linked unlinked i s p e a (eqb-false _ _ q) h l

  found_do : (at : Standing) (i s : ℕ) (p : Stmt) (r : StatementEffect)
      → FoundS env below Γ (standing_at s) p r
      → FoundS env below Γ at (Stmt.do_at i s p) (do_rule (within env.links) at s i r)
  unfolding do_rule_of
  found_do at i s p (Err r) b = BrokenS.under ChildS.do_at b
  found_do at i s p (Ok a) h =
      by_test (FoundS env below Γ at (Stmt.do_at i s p)) (not (within env.links s a.effect)) _ _
      (λ l. BrokenS.here (BreaksS.do_effect h (not-true _ l)))
      (λ l. do_rest i s p a.effect a.at_once h (not-false _ l) at (eqb s private) refl)

  found_join : (at : Standing) (i t : ℕ) (x : Expr) (p : Stmt) (e : Effect) (r : StatementEffect)
      → HasType env.cells Γ x t e → FoundS env below (Γ ++ (t ∷ [])) at p r
      → FoundS env below Γ at (Stmt.let_in i x p) (join_rule e r)
  unfolding join_rule
  found_join at i t x p e (Ok a) h g = HasEffect.let_in h g
  found_join at i t x p e (Err r) h g = BrokenS.under (ChildS.let_in h) g

  found_let : (at : Standing) (i : ℕ) (x : Expr) (p : Stmt) (r : Typing) → FoundE env.cells Γ x r
      → ((Δ : List ℕ) → FoundS env below Δ at p (effect_in env below Δ at p))
      → FoundS env below Γ at (Stmt.let_in i x p) (let_rule (λ Δ. effect_in env below Δ at p) Γ r)
  found_let at i x p (Ok a) h g =
      found_join at i a.type_word x p a.effect _ h (g (Γ ++ (a.type_word ∷ [])))
  found_let at i x p (Err r) h g = BrokenS.operand Operand.let_in h

  found_store : (at : Standing) (i : ℕ) (x y : Expr) (r s : Typing) → FoundE env.cells Γ x r
      → FoundE env.cells Γ y s → FoundS env below Γ at (Stmt.store i x y) (store_rule i r s)
  unfolding store_rule_of
  found_store at i x y (Ok a) (Ok b) g h =
      by_test (FoundS env below Γ at (Stmt.store i x y))
      (is_cell a.type_word && eqb b.type_word (content_of a.type_word)) _ _
      (λ p. let q = and_true _ _ p in HasEffect.store g q.0 (retype (eqb-true _ _ q.1) h))
      (λ p. BrokenS.here (BreaksS.store g h (λ z. and_false _ _ p z.0 (eq-eqb _ _ z.1))))
  found_store at i x y (Ok a) (Err r) g h = BrokenS.operand Operand.store_b h
  found_store at i x y (Err r) s g h = BrokenS.operand Operand.store_a g

  found_if_else : (at : Standing) (i : ℕ) (x : Expr) (p q : Stmt) (r : Typing)
      (s t : StatementEffect)
      → FoundE env.cells Γ x r → FoundS env below Γ at p s → FoundS env below Γ at q t
      → FoundS env below Γ at (Stmt.if_else i x p q) (if_else_rule i r s t)
  unfolding if_else_rule_of
  found_if_else at i x p q (Ok a) (Ok b) (Ok c) h k l =
      by_test (FoundS env below Γ at (Stmt.if_else i x p q)) (eqb a.type_word truth_type) _ _
      (λ z. HasEffect.if_else (retype (eqb-true _ _ z) h) k l)
      (λ z. BrokenS.here (BreaksS.if_else h (eqb-false _ _ z)))
  found_if_else at i x p q (Ok a) (Ok b) (Err r) h k l = BrokenS.under ChildS.if_else_c l
  found_if_else at i x p q (Ok a) (Err r) s h k l = BrokenS.under ChildS.if_else_b k
  found_if_else at i x p q (Err a) r s h k l = BrokenS.operand Operand.if_else h

  -- 19, where the condition is a truth
  while_rest : (at : Standing) (i t : ℕ) (x : Expr) (p : Stmt) (e f : Effect)
      → HasType env.cells Γ x t e → t ≡ truth_type → (b : Bool) → HasEffect env below Γ at p f b
      → FoundS env below Γ at (Stmt.while i x p)
      (if b then fault InstantLoop i else ending (e ∪ f) true)
  while_rest at i t x p e f h z true k = BrokenS.here (BreaksS.while_body k)
  while_rest at i t x p e f h z false k = HasEffect.while (retype z h) k

  found_while : (at : Standing) (i : ℕ) (x : Expr) (p : Stmt) (r : Typing) (s : StatementEffect)
      → FoundE env.cells Γ x r → FoundS env below Γ at p s
      → FoundS env below Γ at (Stmt.while i x p) (while_rule i r s)
  unfolding while_rule_of
  found_while at i x p (Ok a) (Ok b) h k =
      by_test (FoundS env below Γ at (Stmt.while i x p)) (not (eqb a.type_word truth_type)) _ _
      (λ z. BrokenS.here (BreaksS.while h (eqb-false _ _ (not-true _ z))))
      (λ z. while_rest at i a.type_word x p a.effect b.effect h
      (eqb-true _ _ (not-false _ z)) b.at_once k)
  found_while at i x p (Ok a) (Err r) h k = BrokenS.under ChildS.while k
  found_while at i x p (Err r) s h k = BrokenS.operand Operand.while h

  -- 1A and 1B: p generates or awaits event s
  found_signal : (at : Standing) (p : Stmt) (s : ℕ) → Signals p s
      → (s < length env.events
      → HasEffect env below Γ at p (with_event (get_or env.events s 0) no_effect) true)
      → FoundS env below Γ at p (signal_of env.events s (root_s p))
  unfolding signal_rule
  found_signal at p s st runs = by (ltb s (length env.events)) refl
    where
      by : (b : Bool) → ltb s (length env.events) ≡ b
          → FoundS env below Γ at p (signal_of env.events s (root_s p))
      by true h = rw (slice_get-get_or env.events s 0 (ltb-true _ _ h)) (runs (ltb-true _ _ h))
      by false h =
          rw (slice_get_past env.events s (ltb-false _ _ h))
          (BrokenS.here (BreaksS.event st (ltb-false _ _ h)))

pub sound_s : (env : Setting) (below : List Signature) (Γ : List ℕ) (at : Standing) (p : Stmt)
    → FoundS env below Γ at p (effect_in env below Γ at p)
unfolding effect_in
sound_s env below Γ at (Stmt.nothing i) = HasEffect.nothing
sound_s env below Γ at (Stmt.cooperate i) = found_cooperate env below Γ at i
sound_s env below Γ at (Stmt.seq i p q) =
    found_seq env below Γ at i p q _ _ (sound_s env below Γ at p) (sound_s env below Γ at q)
sound_s env below Γ at (Stmt.do_at i s p) =
    found_do env below Γ at i s p _ (sound_s env below Γ (standing_at s) p)
sound_s env below Γ at (Stmt.start i s xs) = found_start env below Γ at
    (Stmt.start i s xs) s xs true Starts.start (λ e l h o. HasEffect.start l h o) _
    (sound_es env.cells Γ xs)
sound_s env below Γ at (Stmt.start_wait i s xs) = found_start env below Γ at
    (Stmt.start_wait i s xs) s xs false Starts.start_wait (λ e l h o. HasEffect.start_wait l h o) _
    (sound_es env.cells Γ xs)
sound_s env below Γ at (Stmt.let_in i x p) = found_let env below Γ at i x p (type_in env.cells Γ x)
    (sound_e env.cells Γ x) (λ Δ. sound_s env below Δ at p)
sound_s env below Γ at (Stmt.store i x y) =
    found_store env below Γ at i x y _ _ (sound_e env.cells Γ x) (sound_e env.cells Γ y)
sound_s env below Γ at (Stmt.if_else i x p q) = found_if_else env below Γ at i x p q _ _ _
    (sound_e env.cells Γ x) (sound_s env below Γ at p) (sound_s env below Γ at q)
sound_s env below Γ at (Stmt.while i x p) =
    found_while env below Γ at i x p _ _ (sound_e env.cells Γ x) (sound_s env below Γ at p)
sound_s env below Γ at (Stmt.generate i s) =
    found_signal env below Γ at (Stmt.generate i s) s Signals.generate (λ l. HasEffect.generate l)
sound_s env below Γ at (Stmt.await i s) =
    found_signal env below Γ at (Stmt.await i s) s Signals.await (λ l. HasEffect.await l)
