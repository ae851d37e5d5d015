-- Modules and whole programs: the computed answer is the one that the rules give, and the only one.
-- Assumes nothing.
use Rattle.std.specs.Prelude.{Ok, Err}
use mathlib.Core.Path.{◌≡◌, ap₂, refl, sym, ◌∙◌}
use mathlib.Core.Logic.{inl, inr}
use mathlib.Core.Bool.{false, true≢false}
use mathlib.Core.List.{List, [], ◌∷◌, ◌++◌}
use Prim.Native.Nat.{ℕ}
use native.Mathlib.Omega.{arith}
use Rattle.language.specs.declared.effect.Effect.{Effect}
use Rattle.language.specs.declared.refusal.Refusal.{Refusal}
use Rattle.language.specs.declared.refusal.Rule.{Rule}
use Rattle.language.specs.declared.refusal.Rule.TheVariants.{WrongEffect}
use Rattle.rules.specs.Inner.Findings.{StatementEffect}
use Rattle.language.specs.Verdicts.{Verdict}
use Rattle.language.specs.Verdicts.{Accepted, Rejected}
use Rattle.language.specs.Places.{home, linked}
use Rattle.language.specs.Effects.{within}
use Rattle.program.specs.Programs.{Part, Program}
use Rattle.layout.proofs.Placed.{PlacedM}
use Rattle.layout.proofs.Parts.{NonEmpty}
use Rattle.rules.specs.Rules.{Setting, setting_of, Signature, signature, Modules}
use Rattle.rules.specs.Broken.{BrokenM, Broken, NoLater, RulesSay}
use Rattle.rules.specs.Inner.Checking.{EffectTest, effect_in, main_rule, after_module}
use Rattle.rules.specs.Inner.Checking.{modules_in, rules_of}
use Rattle.rules.proofs.Lists.{by_test}
use Rattle.language.proofs.VerdictLaws.{same_rule}
use Rattle.rules.proofs.Sooner.{Sooner, exactly}
use Rattle.rules.proofs.Statements.{complete_s, FoundS, sound_s}
use Rattle.rules.proofs.FirstStatements.{least_s}

-- ---- what keeps the rules is accepted
pub complete_m : {env : Setting} {below : List Signature} {ms : List Part} → Modules env below ms
    → modules_in env below ms ≡ Accepted
unfolding modules_in
complete_m (Modules.main r h) = rw (complete_s r) (rw h)
complete_m (Modules.more r ms) = rw (complete_s r) (complete_m ms)

-- ---- whatever is found holds
abbrev pub FoundM : Setting → List Signature → List Part → Verdict → Type 0
FoundM env below ms Accepted = Modules env below ms
FoundM env below ms (Err r) = BrokenM env below ms r.rule r.frame

module _ (env : Setting) (below : List Signature) (m : Part) where
  found_main : (rest : List Signature → Verdict) (r : StatementEffect)
      → FoundS env below m.types linked m.body r
      → FoundM env below (m ∷ []) (after_module (within env.links) rest below m [] r)
  found_main rest (Ok a) h = by_test (FoundM env below (m ∷ []))
      (within env.links home a.effect) _ _ (λ l. Modules.main h l) (λ l. BrokenM.main h l)
  found_main rest (Err r) h = BrokenM.body h

  found_more : (n : Part) (ms : List Part) (rest : List Signature → Verdict)
      → ((sigs : List Signature) → FoundM env sigs (n ∷ ms) (rest sigs)) → (r : StatementEffect)
      → FoundS env below m.types linked m.body r
      → FoundM env below (m ∷ n ∷ ms) (after_module (within env.links) rest below m (n ∷ ms) r)
  found_more n ms rest g (Ok a) h =
      go (rest (below ++ (signature m a.effect ∷ []))) (g (below ++ (signature m a.effect ∷ [])))
    where
      go : (v : Verdict) → FoundM env (below ++ (signature m a.effect ∷ [])) (n ∷ ms) v
          → FoundM env below (m ∷ n ∷ ms) v
      go Accepted k = Modules.more h k
      go (Err r) k = BrokenM.later h k
  found_more n ms rest g (Err r) h = BrokenM.body h

pub sound_m : (env : Setting) (ms : List Part) (below : List Signature) (m : Part)
    → FoundM env below (m ∷ ms) (modules_in env below (m ∷ ms))
unfolding modules_in
sound_m env [] below m = found_main env below m (λ sigs. modules_in env sigs [])
    (effect_in env below m.types linked m.body) (sound_s env below m.types linked m.body)
sound_m env (n ∷ ms) below m = found_more env below m n ms (λ sigs. modules_in env sigs (n ∷ ms))
    (λ sigs. sound_m env ms sigs n) (effect_in env below m.types linked m.body)
    (sound_s env below m.types linked m.body)

-- ---- whatever is broken, the finding is a fault no later
under_body : {n : Rule} {j : ℕ} (allows : EffectTest) (rest : List Signature → Verdict)
    (below : List Signature) (m : Part) (ms : List Part) {r : StatementEffect}
    → Sooner n j r → Sooner n j (after_module allows rest below m ms r)
under_body allows rest below m ms (Sooner.sooner h) = Sooner.sooner h

own_main : (allows : EffectTest) (i : ℕ) (e : Effect) → allows home e ≡ false
    → Sooner WrongEffect i (main_rule allows i e)
own_main allows i e h = by_test (Sooner WrongEffect i) (allows home e) _ _
    (λ l. absurd (true≢false (sym l ∙ h))) (λ l. exactly)

-- the case within `later` shows that a module follows, so that this one is not main
pub least_m : {env : Setting} {below : List Signature} {ms : List Part} {n : Rule} {j : ℕ}
    → BrokenM env below ms n j → PlacedM ms → Sooner n j (modules_in env below ms)
unfolding modules_in
least_m {env = env} {below = below} (BrokenM.body b) (PlacedM.more {m = m} {ms = ms} p q) =
    under_body (within env.links) (λ sigs. modules_in env sigs ms) below m ms (least_s b p)
least_m (BrokenM.later r (BrokenM.body b)) (PlacedM.more p q) =
    rw (complete_s r) (least_m (BrokenM.body b) q)
least_m (BrokenM.later r (BrokenM.later s b)) (PlacedM.more p q) =
    rw (complete_s r) (least_m (BrokenM.later s b) q)
least_m (BrokenM.later r (BrokenM.main s h)) (PlacedM.more p q) =
    rw (complete_s r) (least_m (BrokenM.main s h) q)
least_m {env = env} (BrokenM.main {e = e} r h) (PlacedM.more p q) =
    rw (complete_s r) (own_main (within env.links) _ e h)

-- ---- a whole program
same_place : (n : Rule) (j : ℕ) (m : Rule) (k : ℕ) → NoLater n j m k → NoLater m k n j
    → (n ≡ m) × (j ≡ k)
same_place n j m k (inl a) (inl b) = absurd (omega arith)
same_place n j m k (inl a) (inr b) = absurd (omega arith)
same_place n j m k (inr a) (inl b) = absurd (omega arith)
same_place n j m k (inr a) (inr b) = (same_rule n m (omega arith), omega arith)

later_than : {r : Refusal} {m : Rule} {k : ℕ} → Sooner {A = Unit {0}} m k (Err r)
    → NoLater r.rule r.frame m k
later_than (Sooner.sooner h) = h

not_accepted : {n : Rule} {j : ℕ} → Sooner n j Accepted → ⊥
not_accepted s = elim s [ ]

-- for a program that has a module, and whose trees' frames rise
module _ (file : Program) (some : NonEmpty file.modules) (placed : PlacedM file.modules) where
  abbrev found : Verdict
  found = modules_in (setting_of file) [] file.modules

  found_sound : FoundM (setting_of file) [] file.modules found
  found_sound = rw some.same (sound_m (setting_of file) some.tail [] some.head)

  found_sooner : {n : Rule} {j : ℕ} {r : Verdict} → found ≡ r → Broken file n j → Sooner n j r
  found_sooner {n} {j} q b = let x : Sooner n j found = least_m b placed in rw q at x

  -- the computed verdict is what the rules say
  pub rules_say : RulesSay file (rules_of file)
  unfolding rules_of
  rules_say = go found refl found_sound
    where
      go : (r : Verdict) → found ≡ r → FoundM (setting_of file) [] file.modules r
          → RulesSay file r
      go Accepted q h = h
      go (Err r) q b = record { broken = b; least = λ i k c. later_than (found_sooner q c) }

  -- and nothing else is
  pub rules_only : (r : Verdict) → RulesSay file r → r ≡ rules_of file
  unfolding rules_of
  rules_only Accepted h = sym (complete_m h)
  rules_only (Err r) f = go found refl found_sound
    where
      go : (v : Verdict) → found ≡ v → FoundM (setting_of file) [] file.modules v
          → Rejected r.rule r.frame ≡ found
      go Accepted q h = absurd (not_accepted (found_sooner q f.broken))
      go (Err a) q b =
          let s = same_place r.rule r.frame a.rule a.frame (f.least a.rule a.frame b)
          (later_than (found_sooner q f.broken)) in
          ap₂ Rejected s.0 s.1 ∙ sym q
