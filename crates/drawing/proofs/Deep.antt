-- The computed frame is the lowest that is too deep, where no child is missing and there is no
-- circle. Assumes nothing.
use mathlib.Core.Path.{◌≡◌, refl, sym, ap, subst}
use mathlib.Core.Logic.{⊎_elim}
use mathlib.Core.Bool.{true, ◌&&◌, true≢false}
use mathlib.Core.List.{List}
use Prim.Native.Nat.{ℕ, zero, suc, ◌<◌}
use lib.Dec.{eqb, ltb}
use lib.ListN.{length}
use borrow.Author.Tests.{eq-eqb, eqb-true, ltb-true, lt-ltb}
use Rattle.basics.specs.Members.{In}
use Rattle.basics.proofs.Ifs.{and_true, and_both, or_true, or_left, or_right}
use Rattle.language.specs.declared.refusal.Rule.TheVariants.{TooDeep}
use Rattle.language.specs.Kinds.{is_module, Child, children}
use Rattle.language.specs.declared.kind.Kind.TheVariants.{Module}
use Rattle.language.specs.declared.frame.Frame.{Frame}
use Rattle.program.specs.Trees.{no_frame, frame_at}
use Rattle.layout.specs.Depths.{Depth}
use Rattle.language.specs.Limits.{most_depth}
use Rattle.layout.specs.Faults.{Fault}
use Rattle.layout.proofs.Searches.{Lowest, same_low, lowest_all, any-true, any_some}
use Rattle.layout.proofs.Trees.{is_module_lem, in_body}
use Rattle.layout.proofs.Depths.{AtLeast, Reach, reach_on, seven}
use Rattle.drawing.specs.TreeFaults.{Below}
use Rattle.drawing.specs.Inner.Finds.{deeper_to, is_deep, depth_fault_at}
use Rattle.drawing.proofs.InOrder.{Within, within}
use Rattle.drawing.proofs.Cycles.{in_any, any_in, within_all}

-- every depth is one below the body of a module
record Under (fs : List Frame) (j e : ℕ) : Type 0 where
  at : ℕ
  inside : at < length fs
  kind : (frame_at fs at).kind ≡ Module
  reach : Reach fs (frame_at fs at).a 1 j e

under : {fs : List Frame} {j e : ℕ} → Depth fs j e → Under fs j e
under (Depth.body {i = i} l k) = record { at = i; inside = l; kind = k; reach = Reach.here }
under (Depth.child d m) =
    let u = under d in
    record { at = u.at; inside = u.inside; kind = u.kind; reach = reach_on u.reach m }

module _ (fs : List Frame) where
  deep_found : {i d j e : ℕ} → Reach fs i d j e → (n : ℕ) → Within fs n i → most_depth < e
      → deeper_to n fs j d i ≡ true
  unfolding deeper_to
  deep_found (Reach.here {i = i} {d = d}) n (within g) l =
      or_left _ _ (and_both _ _ (lt-ltb most_depth d l) (eq-eqb i i refl))
  deep_found (Reach.down {i = i} {d = d} {j = j} {c = c} m r) n (within {d = k} g) l =
      or_right (ltb most_depth d && eqb i j) _ (any_in (λ (c : Child). deeper_to k fs j (suc d) c.at) m (deep_found r k (g c m) l))

  found_deep : (n i d j : ℕ) → Depth fs i d → deeper_to n fs j d i ≡ true → AtLeast fs j 25
  unfolding deeper_to
  found_deep zero i d j h e = absurd (true≢false (sym e))
  found_deep (suc n) i d j h e = ⊎_elim
      (λ q. (let a = and_true (ltb most_depth d) (eqb i j) q in subst (λ (k : ℕ). AtLeast fs k 25) (eqb-true i j a.1) (record { depth = d; is = h; least = ltb-true most_depth d a.0 })))
      (λ q. (let m = in_any (λ (c : Child). deeper_to n fs j (suc d) c.at) (children (frame_at fs i)) q in found_deep n m.member.at (suc d) j (Depth.child h m.among) m.passes))
      (or_true (ltb most_depth d && eqb i j) _ e)

  deep_test : (j : ℕ) → is_deep fs j (frame_at fs j) ≡ true → Fault fs TooDeep j
  unfolding is_deep
  deep_test j e =
      let p = any-true no_frame (λ (g : Frame). is_module g.kind && deeper_to (suc (length fs)) fs j 1 g.a) fs e in
      let a = and_true (is_module (frame_at fs p.at).kind) _ p.passes in
      let d = found_deep (suc (length fs)) (frame_at fs p.at).a 1 j (Depth.body p.inside (is_module_lem (frame_at fs p.at).kind a.0)) a.1 in
      Fault.depth d.is d.least

  module _ (inside : (i : ℕ) (c : Child) → In c (children (frame_at fs i)) → c.at < length fs) (trees : (j : ℕ) → j < length fs → Below fs j j → ⊥) where
    reach_inside : {i d j e : ℕ} → Reach fs i d j e → i < length fs → j < length fs
    reach_inside Reach.here l = l
    reach_inside (Reach.down {i = i} {c = c} m r) l = reach_inside r (inside i c m)

    deep_is : (j : ℕ) → Fault fs TooDeep j → (j < length fs) × (is_deep fs j (frame_at fs j) ≡ true)
    unfolding is_deep
    deep_is j f =
        let a = seven f refl in
        let u = under a.is in
        let b = inside u.at _ (in_body (frame_at fs u.at) u.kind) in
        let q = deep_found u.reach (suc (length fs)) (within_all fs inside trees (frame_at fs u.at).a) a.least in
        (reach_inside u.reach b, any_some no_frame (λ (g : Frame). is_module g.kind && deeper_to (suc (length fs)) fs j 1 g.a) fs u.at u.inside (and_both _ _ (ap is_module u.kind) q))

    pub depth_low : Lowest (Fault fs TooDeep) (depth_fault_at fs)
    unfolding depth_fault_at
    depth_low =
        same_low (λ j h. deep_test j h.1) (λ j f. deep_is j f) (lowest_all no_frame (is_deep fs) fs)
