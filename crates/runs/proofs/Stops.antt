-- The listing stops after the check's line after 1 to 7, which are the layout's, and goes on after
-- 8 to 13, which are the rules'. Assumes nothing.
use Rattle.std.specs.Prelude.{Err}
use Prim.Native.Nat.{ℕ, ◌<◌, ◌≤◌}
use mathlib.Core.Path.{◌≡◌, refl, ◌∙◌, subst, ap, ap₂}
use Rattle.language.proofs.VerdictLaws.{rule_in, frame_in}
use mathlib.Core.List.{List}
use mathlib.Core.Bool.{true, false}
use native.Mathlib.Omega.{arith}
use lib.ListN.{length}
use borrow.Author.Tests.{le-leb, lt-leb}
use Rattle.language.specs.Places.{Standing}
use Rattle.language.specs.declared.frame.Frame.{Frame}
use Rattle.language.specs.Refusals.{rule_number}
use Rattle.language.specs.declared.refusal.Rule.{Rule}
use Rattle.language.specs.declared.refusal.Rule.TheVariants.{EmptyText, LongText, MalformedText}
use Rattle.language.specs.Verdicts.{Verdict}
use Rattle.language.specs.Verdicts.{Accepted, Rejected}
use Rattle.text.specs.Reading.{Reading, frames, refused, Reads}
use Rattle.text.specs.Inner.Reading.{reading}
use Rattle.text.proofs.Readings.{reads, some_frame}
use Rattle.program.specs.Trees.{Expr, Stmt}
use Rattle.program.specs.Programs.{Part, program_of}
use Rattle.layout.specs.Faults.{Fault, NoFault, LayoutSays}
use Rattle.layout.specs.Inner.Layouts.{layout_read, layout_verdict}
use Rattle.layout.proofs.Layouts.{layout_says}
use Rattle.rules.specs.Rules.{Setting, Signature}
use Rattle.rules.specs.Breaks.{BreaksE, BreaksS}
use Rattle.rules.specs.Broken.{BrokenE, BrokenS, BrokenM, RulesSay}
use Rattle.rules.specs.Inner.Checking.{rules_of}
use Rattle.checker.proofs.Whole.{rules_hold}
use Rattle.listing.specs.Listing.{stops}

-- ---- 1 to 3
small : {m n : Rule} → m ≡ n → rule_number m ≤ 7 → rule_number n ≤ 7
small e h = subst (λ (r : Rule). rule_number r ≤ 7) e h

text_number : {bs : List ℕ} {r : Reading} → Reads bs r → (n : Rule) (j : ℕ)
    → r ≡ refused n j → rule_number n ≤ 7
text_number Reads.empty n j e = let z : EmptyText ≡ n = cc in small z (omega arith)
text_number (Reads.over h) n j e = let z : LongText ≡ n = cc in small z (omega arith)
text_number (Reads.wrong a b c d) n j e = let z : MalformedText ≡ n = cc in small z (omega arith)
text_number (Reads.whole a b c) n j e = absurd (let z : ◌≡◌ {A = ℕ} 0 1 = cc in omega arith)

-- ---- 4 to 7
fault_number : {fs : List Frame} {n : Rule} {j : ℕ} → Fault fs n j → rule_number n ≤ 7
fault_number (Fault.header h) = omega arith
fault_number (Fault.field l h) = omega arith
fault_number (Fault.order l h) = omega arith
fault_number (Fault.misplaced a b c d) = omega arith
fault_number (Fault.leftover a b c) = omega arith
fault_number (Fault.main a b) = omega arith
fault_number (Fault.depth d h) = omega arith

pub layout_stops : (bs : List ℕ) (n : Rule) (j : ℕ) → layout_verdict bs ≡ Rejected n j
    → stops (Rejected n j) ≡ true
unfolding layout_verdict
layout_stops bs n j e = le-leb (rule_number n) 7 (go (reading bs) refl e)
  where
    go : (r : Reading) → reading bs ≡ r → layout_read r ≡ Rejected n j → rule_number n ≤ 7
    go (refused m k) q z =
        text_number (reads bs) n j (q ∙ ap₂ refused (ap rule_in z) (ap frame_in z))
    go (frames fs) q z =
        fault_number (subst (LayoutSays fs) z (layout_says fs (some_frame (reads bs) q))).fault

-- ---- 8 to 13
at_expression : {cells Γ : List ℕ} {x : Expr} {n : Rule} → BreaksE cells Γ x n → 7 < rule_number n
at_expression (BreaksE.variable h) = omega arith
at_expression (BreaksE.shared h) = omega arith
at_expression (BreaksE.new_deep a b) = omega arith
at_expression (BreaksE.content a b) = omega arith
at_expression (BreaksE.sum a b c) = omega arith
at_expression (BreaksE.less a b c) = omega arith
at_expression (BreaksE.choose a b c d) = omega arith
at_expression (BreaksE.new_escapes a b c) = omega arith

at_statement : {env : Setting} {below : List Signature} {Γ : List ℕ} {at : Standing}
    {p : Stmt} {n : Rule}
    → BreaksS env below Γ at p n → 7 < rule_number n
at_statement (BreaksS.start_module a b) = omega arith
at_statement (BreaksS.event a b) = omega arith
at_statement (BreaksS.start_types a b c d) = omega arith
at_statement (BreaksS.store a b c) = omega arith
at_statement (BreaksS.if_else a b) = omega arith
at_statement (BreaksS.while a b) = omega arith
at_statement (BreaksS.start_escapes a b c) = omega arith
at_statement (BreaksS.do_effect a b) = omega arith
at_statement (BreaksS.start_unlinked a) = omega arith
at_statement BreaksS.cooperate_unlinked = omega arith
at_statement BreaksS.do_unlinked = omega arith
at_statement (BreaksS.while_body a) = omega arith

in_expression : {cells Γ : List ℕ} {x : Expr} {n : Rule} {j : ℕ}
    → BrokenE cells Γ x n j → 7 < rule_number n
in_expression (BrokenE.here h) = at_expression h
in_expression (BrokenE.under c h) = in_expression h

in_statement : {env : Setting} {below : List Signature} {Γ : List ℕ} {at : Standing}
    {p : Stmt} {n : Rule} {j : ℕ}
    → BrokenS env below Γ at p n j → 7 < rule_number n
in_statement (BrokenS.here h) = at_statement h
in_statement (BrokenS.operand o h) = in_expression h
in_statement (BrokenS.under c h) = in_statement h

in_modules : {env : Setting} {below : List Signature} {ms : List Part} {n : Rule} {j : ℕ}
    → BrokenM env below ms n j → 7 < rule_number n
in_modules (BrokenM.body h) = in_statement h
in_modules (BrokenM.later r h) = in_modules h
in_modules (BrokenM.main r e) = omega arith

module _ (fs : List Frame) (some : 0 < length fs) (fine : NoFault fs) where
  pub rules_run : stops (rules_of (program_of fs)) ≡ false
  rules_run = go (rules_of (program_of fs)) (rules_hold fs some fine)
    where
      go : (v : Verdict) → RulesSay (program_of fs) v → stops v ≡ false
      go Accepted h = refl
      go (Err r) h = lt-leb (rule_number r.rule) 7 (in_modules h.broken)
