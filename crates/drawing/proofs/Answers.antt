-- The writer's answer: the function gives one that `HasWriting` allows, and it is the only one.
-- Assumes nothing.
use mathlib.Core.Path.{◌≡◌, refl, sym, ap, ◌∙◌}
use mathlib.Core.Logic.{◌⊎◌, inl, inr}
use mathlib.Core.Bool.{Bool, true, false}
use mathlib.Core.List.{List}
use Rattle.std.specs.Prelude.{Option, Some, None}
use Prim.Native.Nat.{ℕ, suc, ◌≤◌, ◌<◌}
use native.Mathlib.Omega.{arith}
use native.Mathlib.Decide.{ℕ_discrete}
use lib.Dec.{eqb, ltb}
use lib.ListN.{length}
use borrow.Author.Tests.{eqb-true, eqb-false, eq-eqb, ne_eqb, ltb-true, ltb-false}
use Rattle.basics.specs.If.{when◌then◌else◌}
use Rattle.basics.specs.Members.{In}
use Rattle.basics.proofs.Ifs.{if_all, if_yes, if_no}
use Rattle.language.specs.Refusals.{rule_number, wrong_header, wrong_field}
use Rattle.language.specs.declared.refusal.Rule.{Rule}
use Rattle.language.specs.declared.refusal.Rule.TheVariants.{WrongHeader, WrongField, WrongTree}
use Rattle.language.specs.declared.refusal.Rule.TheVariants.{WrongOrder, TooDeep, WrongState}
use Rattle.language.proofs.VerdictLaws.{same_rule}
use Rattle.language.specs.Kinds.{Child, children}
use Rattle.language.specs.declared.frame.Frame.{Frame}
use Rattle.language.specs.Verdicts.{Verdict}
use Rattle.language.specs.Verdicts.{Accepted, Rejected}
use Rattle.program.specs.Trees.{frame_at}
use Rattle.text.specs.Reading.{Reading, frames, refused, Reads}
use Rattle.text.specs.Inner.Reading.{reading}
use Rattle.text.proofs.Readings.{reads, reads_one}
use Rattle.layout.specs.Faults.{Fault, FirstFault}
use Rattle.fields.specs.Inner.Scans.{header_fault, field_fault, refused_at, then_try}
use Rattle.layout.proofs.Searches.{Lowest, lowest_one}
use Rattle.layout.proofs.Layouts.{header_low, field_low}
use Rattle.drawing.specs.TreeFaults.{Below, TreeFault}
use Rattle.drawing.specs.Writings.{Writing, as_writing, LowestAt, NoneAt}
use Rattle.drawing.specs.Writings.{NoEarly, Writable, rewritten, HasWriting}
use Rattle.drawing.specs.Inner.Finds.{tree_fault_at, shape_fault_at, depth_fault_at, drawing_verdict}
use Rattle.drawing.specs.Inner.Finds.{writing_after, writing_of, writing_read}
use Rattle.drawing.specs.Answers.{writing, WritingComputes}
use Rattle.drawing.proofs.Cycles.{only_frames}
use Rattle.drawing.proofs.FaultTests.{tree_low, shape_low}
use Rattle.drawing.proofs.Deep.{depth_low}

-- ---- what no fault of the trees gives
module _ (fs : List Frame) (no_fault : NoneAt (TreeFault fs)) where
  pub all_inside : (i : ℕ) (c : Child) → In c (children (frame_at fs i)) → c.at < length fs
  all_inside i c m = go (ltb c.at (length fs)) refl
    where
      go : (b : Bool) → ltb c.at (length fs) ≡ b → c.at < length fs
      go true e = ltb-true c.at (length fs) e
      go false e =
          absurd (no_fault i (TreeFault.missing (only_frames fs i c m) m (ltb-false c.at (length fs) e)))

  pub no_cycle : (j : ℕ) → j < length fs → Below fs j j → ⊥
  no_cycle j l b = no_fault j (TreeFault.cycle l b)

  pub depth_lowest : Lowest (Fault fs TooDeep) (depth_fault_at fs)
  depth_lowest = depth_low fs all_inside no_cycle

-- ---- a search that finds the lowest, and one that finds nothing
found_at : {P : ℕ → Type 0} {o : Option ℕ} {j : ℕ} → Lowest P o → LowestAt P j → o ≡ Some j
found_at l h = lowest_one l (Lowest.lowest_at h.holds h.least)

found_none : {P : ℕ → Type 0} {o : Option ℕ} → Lowest P o → NoneAt P → o ≡ None
found_none l h = lowest_one l (Lowest.nowhere h)

-- ---- 4 and 5
four_up : {fs : List Frame} {m : Rule} {k : ℕ} → Fault fs m k → wrong_header ≤ rule_number m
four_up (Fault.header h) = omega arith
four_up (Fault.field l h) = omega arith
four_up (Fault.order l h) = omega arith
four_up (Fault.misplaced a b c d) = omega arith
four_up (Fault.leftover a b c) = omega arith
four_up (Fault.main a b) = omega arith
four_up (Fault.depth d h) = omega arith

module _ (fs : List Frame) where
  -- every fault has the number n or a later one
  abbrev From : ℕ → Type 0
  From n = (m : Rule) (k : ℕ) → Fault fs m k → n ≤ rule_number m

  first_of : (n : Rule) (j : ℕ) → From (rule_number n) → LowestAt (Fault fs n) j → FirstFault fs n j
  first_of n j low h =
      record { fault = h.holds; least = λ m k x. go m k x (ℕ_discrete (rule_number m) (rule_number n)) }
    where
      go : (m : Rule) (k : ℕ) → Fault fs m k → Dec (rule_number m ≡ rule_number n)
          → (rule_number n < rule_number m) ⊎ ((n ≡ m) × (j ≤ k))
      go m k x (yes e) = let z = same_rule m n e in inr (sym z, h.least k (rw z at x))
      go m k x (no d) = let l = low m k x in inl (omega (arith, d))

  above : (n : Rule) → From (rule_number n) → NoneAt (Fault fs n) → From (suc (rule_number n))
  above n low h m k x = go (ℕ_discrete (rule_number m) (rule_number n))
    where
      go : Dec (rule_number m ≡ rule_number n) → suc (rule_number n) ≤ rule_number m
      go (yes e) = let z = same_rule m n e in absurd (h k (rw z at x))
      go (no d) = let l = low m k x in omega (arith, d)

  lowest_of : (n : Rule) (j : ℕ) → FirstFault fs n j → LowestAt (Fault fs n) j
  lowest_of n j f = record { holds = f.fault; least = λ k x. go k (f.least n k x) }
    where
      go : (k : ℕ) → (rule_number n < rule_number n) ⊎ ((n ≡ n) × (j ≤ k)) → j ≤ k
      go k (inl l) = absurd (omega arith)
      go k (inr h) = h.1

  none_before : (n : Rule) (j : ℕ) (m : Rule) → FirstFault fs n j → rule_number m < rule_number n
      → NoneAt (Fault fs m)
  none_before n j m f l k x = go (f.least m k x)
    where
      go : (rule_number n < rule_number m) ⊎ ((n ≡ m) × (j ≤ k)) → ⊥
      go (inl h) = omega arith
      go (inr h) = let e = ap rule_number h.0 in omega arith

-- ---- frames without a fault pass
last_passed : {P : ℕ → Type 0} (m : Rule) (o : Option ℕ) → Lowest P o → refused_at m o ≡ Accepted
    → NoneAt P
last_passed m None (Lowest.nowhere h) e = h
last_passed m (Some j) (Lowest.lowest_at p l) e =
    absurd (let z : ◌≡◌ {A = ℕ} 0 1 = cc in omega arith)

stop_passed : {P : ℕ → Type 0} (m : Rule) (o : Option ℕ) (next : Unit {0} → Verdict) → Lowest P o
    → then_try (refused_at m o) next ≡ Accepted → NoneAt P × (next tt ≡ Accepted)
stop_passed m None next (Lowest.nowhere h) e = (h, e)
stop_passed m (Some j) next (Lowest.lowest_at p l) e =
    absurd (let z : ◌≡◌ {A = ℕ} 0 1 = cc in omega arith)

pub accepted_writable : (fs : List Frame) → drawing_verdict fs ≡ Accepted → Writable fs
unfolding drawing_verdict
accepted_writable fs e =
    let a = stop_passed WrongHeader (header_fault fs) _ (header_low fs) e in
    let b = stop_passed WrongField (field_fault fs) _ (field_low fs) a.1 in
    let t = stop_passed WrongTree (tree_fault_at fs) _ (tree_low fs) b.1 in
    let s = stop_passed WrongOrder (shape_fault_at fs) _ (shape_low fs) t.1 in
    let d = last_passed TooDeep (depth_fault_at fs) (depth_lowest fs t.0) s.1 in
    record {
      early = λ m j l x.
          let q = above fs WrongField (above fs WrongHeader (λ m k x. four_up x) a.0) b.0 m j x in
          omega arith;
      trees = t.0;
      shaped = s.0;
      shallow = d;
    }

-- ---- the function's answer is one that the relation allows
module _ (bs out : List ℕ) where
  stop_step : {P : ℕ → Type 0} (m : Rule) (o : Option ℕ) (next : Unit {0} → Verdict) → Lowest P o
      → ((j : ℕ) → LowestAt P j → HasWriting bs out (as_writing (Rejected m j) out))
      → (NoneAt P → HasWriting bs out (writing_after bs out (next tt)))
      → HasWriting bs out (writing_after bs out (then_try (refused_at m o) next))
  stop_step m None next (Lowest.nowhere h) f g = g h
  stop_step m (Some j) next (Lowest.lowest_at p l) f g = f j (record { holds = p; least = l })

  last_step : {P : ℕ → Type 0} (m : Rule) (o : Option ℕ) → Lowest P o
      → ((j : ℕ) → LowestAt P j → HasWriting bs out (as_writing (Rejected m j) out))
      → (NoneAt P → HasWriting bs out (writing_after bs out Accepted))
      → HasWriting bs out (writing_after bs out (refused_at m o))
  last_step m None (Lowest.nowhere h) f g = g h
  last_step m (Some j) (Lowest.lowest_at p l) f g = f j (record { holds = p; least = l })

  writing_of_lem : (fs : List Frame) → Reads bs (frames fs) → HasWriting bs out (writing_of bs out fs)
  unfolding writing_of drawing_verdict
  writing_of_lem fs r =
      stop_step WrongHeader (header_fault fs) _ (header_low fs) (λ j h. HasWriting.early r (first_of fs WrongHeader j (λ m k x. four_up x) h) (omega arith)) (λ a.
      stop_step WrongField (field_fault fs) _ (field_low fs) (λ j h. HasWriting.early r (first_of fs WrongField j (above fs WrongHeader (λ m k x. four_up x) a) h) (omega arith)) (λ b.
      let early : NoEarly fs = λ m j l x. (let q = above fs WrongField (above fs WrongHeader (λ m k x. four_up x) a) b m j x in omega arith) in
      stop_step WrongTree (tree_fault_at fs) _ (tree_low fs) (λ j h. HasWriting.tree r early h) (λ t.
      stop_step WrongOrder (shape_fault_at fs) _ (shape_low fs) (λ j h. HasWriting.shape r early t h) (λ s.
      last_step TooDeep (depth_fault_at fs) (depth_lowest fs t) (λ j h. HasWriting.depth r early t s h) (λ d.
      let writable : Writable fs = record { early = early; trees = t; shaped = s; shallow = d } in
      if_all (HasWriting bs out) (eqb (length out) (length bs)) _ _ (λ e. HasWriting.lines r writable (eqb-true (length out) (length bs) e)) (λ e. HasWriting.unfit r writable (eqb-false (length out) (length bs) e)))))))

  pub has_writing : HasWriting bs out (writing bs out)
  unfolding writing
  has_writing = go (reading bs) (reads bs)
    where
      go : (r : Reading) → Reads bs r → HasWriting bs out (writing_read bs out r)
      go (refused m j) h = HasWriting.text h
      go (frames fs) h = writing_of_lem fs h

  -- ---- and the only one
  module _ (fs : List Frame) where
    says_4 : (j : ℕ) → header_fault fs ≡ Some j → as_writing (Rejected WrongHeader j) out ≡ writing_of bs out fs
    unfolding writing_of drawing_verdict
    says_4 j e = rw e

    module _ (a : header_fault fs ≡ None) where
      says_5 : (j : ℕ) → field_fault fs ≡ Some j → as_writing (Rejected WrongField j) out ≡ writing_of bs out fs
      unfolding writing_of drawing_verdict
      says_5 j e = rw (a, e)

      module _ (b : field_fault fs ≡ None) where
        says_21 : (j : ℕ) → tree_fault_at fs ≡ Some j → as_writing (Rejected WrongTree j) out ≡ writing_of bs out fs
        unfolding writing_of drawing_verdict
        says_21 j e = rw (a, b, e)

        module _ (c : tree_fault_at fs ≡ None) where
          says_6 : (j : ℕ) → shape_fault_at fs ≡ Some j → as_writing (Rejected WrongOrder j) out ≡ writing_of bs out fs
          unfolding writing_of drawing_verdict
          says_6 j e = rw (a, b, c, e)

          module _ (d : shape_fault_at fs ≡ None) where
            says_7 : (j : ℕ) → depth_fault_at fs ≡ Some j → as_writing (Rejected TooDeep j) out ≡ writing_of bs out fs
            unfolding writing_of drawing_verdict
            says_7 j e = rw (a, b, c, d, e)

            says_last : depth_fault_at fs ≡ None
                → (when eqb (length out) (length bs) then as_writing Accepted (rewritten bs) else as_writing (Rejected WrongState 0) out) ≡ writing_of bs out fs
            unfolding writing_of drawing_verdict
            says_last e = rw (a, b, c, d, e)

    none_4 : NoEarly fs → header_fault fs ≡ None
    none_4 h = found_none (header_low fs) (λ j x. h WrongHeader j (omega arith) x)

    none_5 : NoEarly fs → field_fault fs ≡ None
    none_5 h = found_none (field_low fs) (λ j x. h WrongField j (omega arith) x)

    only_early : (m : Rule) (j : ℕ) → FirstFault fs m j → rule_number m ≤ wrong_field
        → as_writing (Rejected m j) out ≡ writing_of bs out fs
    only_early m j f l = go (ℕ_discrete (rule_number m) wrong_header)
      where
        go : Dec (rule_number m ≡ wrong_header)
            → as_writing (Rejected m j) out ≡ writing_of bs out fs
        go (yes q) =
            let e : m ≡ WrongHeader = same_rule m WrongHeader q in
            let g : FirstFault fs WrongHeader j = (rw e at f) in
            ap (λ (k : Rule). as_writing (Rejected k j) out) e
            ∙ says_4 j (found_at (header_low fs) (lowest_of fs WrongHeader j g))
        go (no d) =
            let x = four_up f.fault in
            let q : rule_number m ≡ wrong_field = omega (arith, d) in
            let e : m ≡ WrongField = same_rule m WrongField q in
            let g : FirstFault fs WrongField j = (rw e at f) in
            ap (λ (k : Rule). as_writing (Rejected k j) out) e ∙ says_5 (found_none (header_low fs) (none_before fs WrongField j WrongHeader g (omega arith))) j (found_at (field_low fs) (lowest_of fs WrongField j g))

    only_writable : Writable fs
        → (when eqb (length out) (length bs) then as_writing Accepted (rewritten bs) else as_writing (Rejected WrongState 0) out) ≡ writing_of bs out fs
    only_writable s =
        says_last (none_4 s.early) (none_5 s.early) (found_none (tree_low fs) s.trees) (found_none (shape_low fs) s.shaped) (found_none (depth_lowest fs s.trees) s.shallow)

  frames_only : {fs : List Frame} {v : Writing} → Reads bs (frames fs) → v ≡ writing_of bs out fs
      → v ≡ writing bs out
  unfolding writing
  frames_only r e = e ∙ ap (writing_read bs out) (reads_one r (reads bs))

  pub writing_only : {v : Writing} → HasWriting bs out v → v ≡ writing bs out
  unfolding writing
  writing_only (HasWriting.text h) = ap (writing_read bs out) (reads_one h (reads bs))
  writing_only (HasWriting.early {fs = fs} {m = m} {j = j} r f l) =
      frames_only r (only_early fs m j f l)
  writing_only (HasWriting.tree {fs = fs} {j = j} r e h) =
      frames_only r (says_21 fs (none_4 fs e) (none_5 fs e) j (found_at (tree_low fs) h))
  writing_only (HasWriting.shape {fs = fs} {j = j} r e t h) =
      frames_only r (says_6 fs (none_4 fs e) (none_5 fs e) (found_none (tree_low fs) t) j (found_at (shape_low fs) h))
  writing_only (HasWriting.depth {fs = fs} {j = j} r e t s h) =
      frames_only r (says_7 fs (none_4 fs e) (none_5 fs e) (found_none (tree_low fs) t) (found_none (shape_low fs) s) j (found_at (depth_lowest fs t) h))
  writing_only (HasWriting.unfit {fs = fs} r s d) =
      frames_only r (sym (if_no (as_writing Accepted (rewritten bs)) (as_writing (Rejected WrongState 0) out) (ne_eqb (length out) (length bs) d)) ∙ only_writable fs s)
  writing_only (HasWriting.lines {fs = fs} r s e) =
      frames_only r (sym (if_yes (as_writing Accepted (rewritten bs)) (as_writing (Rejected WrongState 0) out) (eq-eqb (length out) (length bs) e)) ∙ only_writable fs s)

-- ---- so the two are one
pub writing_computes : WritingComputes
writing_computes bs out = record { says = has_writing bs out; only = λ w h. writing_only bs out h }
