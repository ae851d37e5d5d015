-- Refusals 4 to 7: `layout_of` gives the first fault, and there is only one first. Assumes nothing.
use Rattle.std.specs.Prelude.{Err}
use mathlib.Core.Path.{◌≡◌, refl, sym, ap, ap₂, ◌∙◌}
use mathlib.Core.Logic.{◌⊎◌, inl, inr}
use mathlib.Core.Bool.{Bool, true, false, not, true≢false}
use mathlib.Core.List.{List}
use Rattle.std.specs.Prelude.{Option, Some, None}
use Prim.Native.Nat.{ℕ, suc, ◌≤◌, ◌<◌}
use native.Mathlib.Omega.{arith}
use lib.Dec.{eqb}
use borrow.Author.Tests.{eqb-true, eqb-false, not-true}
use lib.ListN.{length}
use Rattle.basics.proofs.Ifs.{if_all}
use Rattle.language.specs.Refusals.{rule_number, wrong_header, wrong_field, too_deep}
use Rattle.language.specs.declared.refusal.Rule.{Rule}
use Rattle.language.specs.declared.refusal.Rule.TheVariants.{WrongHeader, WrongField}
use Rattle.language.specs.declared.refusal.Rule.TheVariants.{WrongOrder, TooDeep}
use Rattle.language.proofs.VerdictLaws.{same_rule}
use Rattle.language.specs.declared.frame.Frame.{Frame}
use Rattle.program.specs.Trees.{no_frame, frame_at}
use Rattle.fields.specs.Fields.{header_fine, frame_fine}
use Rattle.fields.specs.Inner.Scans.{header_fault, field_fault, refused_at, then_try}
use Rattle.layout.specs.Verdicts.{LayoutVerdict}
use Rattle.layout.specs.Verdicts.{LaidOut, Rejected}
use Rattle.layout.specs.Faults.{Fault, LayoutSays}
use Rattle.layout.specs.Inner.Scans.{order_fault, depth_fault, layout_of}
use Rattle.layout.proofs.Searches.{Lowest, same_low, lowest_all}
use Rattle.layout.proofs.Order.{order_low, all_trees}
use Rattle.layout.proofs.Depths.{depth_low}

-- what a fault 4 is, and a fault 5
four : {fs : List Frame} {n : Rule} {j : ℕ} → Fault fs n j → rule_number n ≡ wrong_header
    → (j ≡ 0) × (header_fine fs ≡ false)
four (Fault.header h) e = (refl, h)
four (Fault.field l h) e = absurd (omega arith)
four (Fault.order l h) e = absurd (omega arith)
four (Fault.misplaced a b c d) e = absurd (omega arith)
four (Fault.leftover a b c) e = absurd (omega arith)
four (Fault.main a b) e = absurd (omega arith)
four (Fault.depth d h) e = absurd (omega arith)

five : {fs : List Frame} {n : Rule} {j : ℕ} → Fault fs n j → rule_number n ≡ wrong_field
    → (j < length fs) × (frame_fine fs j (frame_at fs j) ≡ false)
five (Fault.header h) e = absurd (omega arith)
five (Fault.field l h) e = (l, h)
five (Fault.order l h) e = absurd (omega arith)
five (Fault.misplaced a b c d) e = absurd (omega arith)
five (Fault.leftover a b c) e = absurd (omega arith)
five (Fault.main a b) e = absurd (omega arith)
five (Fault.depth d h) e = absurd (omega arith)

-- every number is one of 4 to 7
numbers : {fs : List Frame} {n : Rule} {j : ℕ} → Fault fs n j
    → (wrong_header ≤ rule_number n) × (rule_number n ≤ too_deep)
numbers (Fault.header h) = omega arith
numbers (Fault.field l h) = omega arith
numbers (Fault.order l h) = omega arith
numbers (Fault.misplaced a b c d) = omega arith
numbers (Fault.leftover a b c) = omega arith
numbers (Fault.main a b) = omega arith
numbers (Fault.depth d h) = omega arith

pub header_low : (fs : List Frame) → Lowest (Fault fs WrongHeader) (header_fault fs)
unfolding header_fault
header_low fs = if_all (Lowest (Fault fs WrongHeader)) (header_fine fs) _ _ (λ h. Lowest.nowhere (λ j f. true≢false (sym h ∙ (four f refl).1))) (λ h. Lowest.lowest_at (Fault.header h) (λ k f. omega arith))

pub field_low : (fs : List Frame) → Lowest (Fault fs WrongField) (field_fault fs)
unfolding field_fault
field_low fs = same_low (λ j h. Fault.field h.0 (not-true _ h.1)) (λ j f. (let p = five f refl in (p.0, ap not p.1))) (lowest_all no_frame (λ (i : ℕ) (f : Frame). not (frame_fine fs i f)) fs)

-- ---- one number after the other
-- no fault has a number below n
abbrev NoneBelow : List Frame → ℕ → Type 0
NoneBelow fs n = (m : Rule) (k : ℕ) → Fault fs m k → n ≤ rule_number m

renumber : {fs : List Frame} {n m : Rule} {k : ℕ} → m ≡ n → Fault fs m k → Fault fs n k
renumber e f = rw e at f

-- the lowest fault n, if there is one, is the first; else no fault has a number up to n
reject_step : {fs : List Frame} (n : Rule) (o : Option ℕ) (next : Unit {0} → LayoutVerdict)
    → NoneBelow fs (rule_number n) → Lowest (Fault fs n) o
    → (NoneBelow fs (suc (rule_number n)) → LayoutSays fs (next tt))
    → LayoutSays fs (then_try (refused_at n o) next)
reject_step {fs} n None next low (Lowest.nowhere h) g =
    g (λ m k f. go m k f (eqb (rule_number m) (rule_number n)) refl)
  where
    go : (m : Rule) (k : ℕ) → Fault fs m k → (b : Bool) → eqb (rule_number m) (rule_number n) ≡ b
        → suc (rule_number n) ≤ rule_number m
    go m k f true e = absurd (h k (renumber (same_rule m n (eqb-true _ _ e)) f))
    go m k f false e =
        (let z : rule_number m ≡ rule_number n → ⊥ = eqb-false _ _ e in
        let l = low m k f in
        omega arith)
reject_step {fs} n (Some j) next low (Lowest.lowest_at f l) g =
    record { fault = f; least = λ m k x. go m k x (eqb (rule_number m) (rule_number n)) refl }
  where
    go : (m : Rule) (k : ℕ) → Fault fs m k → (b : Bool) → eqb (rule_number m) (rule_number n) ≡ b
        → (rule_number n < rule_number m) ⊎ ((n ≡ m) × (j ≤ k))
    go m k x true e =
        (let z : m ≡ n = same_rule m n (eqb-true _ _ e) in inr (sym z, l k (renumber z x)))
    go m k x false e =
        (let z : rule_number m ≡ rule_number n → ⊥ = eqb-false _ _ e in
        let y = low m k x in
        inl (omega arith))

-- ---- the first fault
pub layout_says : (fs : List Frame) → 0 < length fs → LayoutSays fs (layout_of fs)
unfolding layout_of
layout_says fs l =
    reject_step WrongHeader (header_fault fs) _ (λ m k f. (numbers f).0) (header_low fs) (λ a.
    reject_step WrongField (field_fault fs) _ a (field_low fs) (λ b.
    reject_step WrongOrder (order_fault fs) _ b (order_low fs l) (λ c.
    last (depth_fault fs) c (depth_low fs (all_trees fs (λ k f. (let z = c WrongOrder k f in omega arith)))))))
  where
    last : (o : Option ℕ) → NoneBelow fs too_deep → Lowest (Fault fs TooDeep) o
        → LayoutSays fs (refused_at TooDeep o)
    last None low h =
        reject_step TooDeep None (λ _. LaidOut) low h
        (λ d m k f. (let x = d m k f in let y = numbers f in omega arith))
    last (Some j) low h =
        reject_step TooDeep (Some j) (λ _. LaidOut) low h
        (λ d m k f. (let x = d m k f in let y = numbers f in omega arith))

-- there is only one
pub layout_one : (fs : List Frame) (r s : LayoutVerdict) → LayoutSays fs r → LayoutSays fs s → r ≡ s
layout_one fs LaidOut LaidOut h g = refl
layout_one fs LaidOut (Err r) h g = absurd (h r.rule r.frame g.fault)
layout_one fs (Err r) LaidOut h g = absurd (g r.rule r.frame h.fault)
layout_one fs (Err r) (Err s) h g =
    go (h.least s.rule s.frame g.fault) (g.least r.rule r.frame h.fault)
  where
    go : (rule_number r.rule < rule_number s.rule) ⊎ ((r.rule ≡ s.rule) × (r.frame ≤ s.frame))
        → (rule_number s.rule < rule_number r.rule) ⊎ ((s.rule ≡ r.rule) × (s.frame ≤ r.frame))
        → Rejected r.rule r.frame ≡ Rejected s.rule s.frame
    go (inl a) (inl b) = absurd (omega arith)
    go (inl a) (inr b) = absurd (let z = ap rule_number b.0 in omega arith)
    go (inr a) (inl b) = absurd (let z = ap rule_number a.0 in omega arith)
    go (inr a) (inr b) =
        (let p = a.1 in let q = b.1 in let z : r.frame ≡ s.frame = omega arith in ap₂ Rejected a.0 z)
