-- Refusal 7: the computed frame is the lowest that is too deep. Assumes nothing.
use mathlib.Core.Path.{◌≡◌, refl, sym, ap, ◌∙◌}
use mathlib.Core.Logic.{◌⊎◌, inl, inr, ⊎_elim}
use mathlib.Core.Bool.{Bool, true, false, true≢false}
use mathlib.Core.List.{List, [], ◌∷◌}
use Rattle.std.specs.Prelude.{Option, Some, None}
use Prim.Native.Nat.{ℕ, zero, suc, ◌+◌, ◌≤◌, ◌<◌}
use native.Mathlib.Omega.{arith}
use lib.Dec.{ltb}
use borrow.Author.Tests.{ltb-true, ltb-false}
use lib.ListN.{length}
use Rattle.basics.specs.If.{when◌then◌else◌}
use Rattle.basics.specs.Members.{In}
use Rattle.basics.proofs.Ifs.{if_all}
use Rattle.language.specs.Refusals.{rule_number, too_deep}
use Rattle.language.specs.declared.refusal.Rule.{Rule}
use Rattle.language.specs.declared.refusal.Rule.TheVariants.{TooDeep}
use Rattle.language.specs.declared.kind.Kind.{Kind}
use Rattle.language.specs.declared.kind.Kind.TheVariants.{Module}
use Rattle.language.specs.declared.frame.Frame.{Frame}
use Rattle.language.specs.Kinds.{is_module, Child, children}
use Rattle.language.specs.Limits.{most_depth}
use Rattle.program.specs.Trees.{frame_at}
use Rattle.layout.specs.Depths.{Depth}
use Rattle.layout.specs.Faults.{Fault}
use Rattle.layout.specs.Inner.Scans.{lowest_child, deep_to, deep_in, first_deep, depth_fault}
use Rattle.layout.proofs.Searches.{Lowest, either, same_low}
use Rattle.layout.proofs.Trees.{is_module_lem, tree_in, HasTree, From, from_next, from_start}
use Rattle.layout.proofs.Trees.{Among, none_in, in_body, only_body}

-- frame j stands at a depth of at least x
pub record AtLeast (fs : List Frame) (j x : ℕ) : Type 0 where
  pub depth : ℕ
  pub is : Depth fs j depth
  pub least : x ≤ depth

-- frame j is the body of the module n, or a child of frame n
pub body_depth : {fs : List Frame} {n j : ℕ} → n < length fs → (frame_at fs n).kind ≡ Module
    → Among (children (frame_at fs n)) j → Depth fs j 1
body_depth {fs} {n} {j} l k a =
    let q : (frame_at fs n).a ≡ j = sym (only_body (frame_at fs n) a.child k a.among) ∙ a.at_it in
    let b : Depth fs (frame_at fs n).a 1 = Depth.body l k in
    rw q at b

pub child_depth : {fs : List Frame} {n j d : ℕ} → Depth fs n d → Among (children (frame_at fs n)) j
    → Depth fs j (suc d)
child_depth {fs} {n} {j} {d} h a =
    let q : a.child.at ≡ j = a.at_it in
    let b : Depth fs a.child.at (suc d) = Depth.child h a.among in
    rw q at b

-- what a fault 7 is
pub seven : {fs : List Frame} {n : Rule} {j : ℕ} → Fault fs n j → rule_number n ≡ too_deep
    → AtLeast fs j 25
seven (Fault.header h) e = absurd (omega arith)
seven (Fault.field l h) e = absurd (omega arith)
seven (Fault.order l h) e = absurd (omega arith)
seven (Fault.misplaced a b c d) e = absurd (omega arith)
seven (Fault.leftover a b c) e = absurd (omega arith)
seven (Fault.main a b) e = absurd (omega arith)
seven (Fault.depth {d = d} h l) e = record { depth = d; is = h; least = l }

-- ---- from a frame down
-- from frame i at the depth d one comes down to frame j at the depth e
pub data Reach (fs : List Frame) : ℕ → ℕ → ℕ → ℕ → Type 0 where
  here : {i d : ℕ} → Reach fs i d i d
  down : {i d j e : ℕ} {c : Child} → In c (children (frame_at fs i)) → Reach fs c.at (suc d) j e
      → Reach fs i d j e

pub reach_on : {fs : List Frame} {i d j e : ℕ} {c : Child} → Reach fs i d j e
    → In c (children (frame_at fs j)) → Reach fs i d c.at (suc e)
reach_on Reach.here m = Reach.down m Reach.here
reach_on (Reach.down n r) m = Reach.down n (reach_on r m)

depth_on : {fs : List Frame} {i d j e : ℕ} → Reach fs i d j e → Depth fs i d → Depth fs j e
depth_on Reach.here h = h
depth_on (Reach.down m r) h = depth_on r (Depth.child h m)

-- a frame too deep below frame i
record Deep (fs : List Frame) (i d j : ℕ) : Type 0 where
  depth : ℕ
  reach : Reach fs i d j depth
  over : most_depth < depth

-- P of some child
record SomeChild (P : ℕ → ℕ → Type 0) (cs : List Child) (j : ℕ) : Type 0 where
  child : Child
  among : In child cs
  holds : P child.at j

child_low : (P : ℕ → ℕ → Type 0) (find : ℕ → Option ℕ) (cs : List Child)
    → ((c : Child) → In c cs → Lowest (P c.at) (find c.at))
    → Lowest (SomeChild P cs) (lowest_child find cs)
unfolding lowest_child
child_low P find [] h = Lowest.nowhere (λ j s. none_in s.among)
child_low P find (c ∷ cs) h = same_low (λ j. ⊎_elim (λ p. record { child = c; among = In.first; holds = p }) (λ s. record { child = s.child; among = In.later s.among; holds = s.holds })) (λ j s. split j s.child s.among s.holds) (either (h c In.first) (child_low P find cs (λ x m. h x (In.later m))))
  where
    split : (j : ℕ) (x : Child) → In x (c ∷ cs) → P x.at j → P c.at j ⊎ SomeChild P cs j
    split j x In.first p = inl p
    split j x (In.later m) p = inr (record { child = x; among = m; holds = p })

self_low : (i d : ℕ)
    → Lowest (λ j. (j ≡ i) × (most_depth < d)) (when ltb most_depth d then Some i else None)
self_low i d = if_all (Lowest (λ j. (j ≡ i) × (most_depth < d))) (ltb most_depth d) _ _ (λ h. Lowest.lowest_at (refl, ltb-true _ _ h) (λ k p. (let e = p.0 in omega arith))) (λ h. Lowest.nowhere (λ j p. (let a = ltb-false most_depth d h in let b = p.1 in omega arith)))

module _ (fs : List Frame) (trees : (j : ℕ) → j < length fs → HasTree fs j) where
  deep_low : (n i d : ℕ) → i < n → i < length fs → Lowest (Deep fs i d) (deep_to n fs d i)
  unfolding deep_to
  deep_low zero i d l k = absurd (omega arith)
  deep_low (suc n) i d l k = same_low (λ j. ⊎_elim (λ s. under s.child s.among s.holds) (λ p. self j p.0 p.1)) (λ j s. split j s.depth s.reach s.over)
      (either (child_low (λ c j. Deep fs c (suc d) j) (λ c. deep_to n fs (suc d) c) (children (frame_at fs i)) (λ c m. (let t = tree_in (trees i k).tree m in deep_low n c.at (suc d) (omega arith) (omega arith)))) (self_low i d))
    where
      under : {j : ℕ} (c : Child) → In c (children (frame_at fs i)) → Deep fs c.at (suc d) j
          → Deep fs i d j
      under c m p = record { depth = p.depth; reach = Reach.down m p.reach; over = p.over }

      self : (j : ℕ) → j ≡ i → most_depth < d → Deep fs i d j
      self j e h = rw e (record { depth = d; reach = Reach.here; over = h })

      split : (j e : ℕ) → Reach fs i d j e → most_depth < e
          → SomeChild (λ c k. Deep fs c (suc d) k) (children (frame_at fs i)) j ⊎
          ((j ≡ i) × (most_depth < d))
      split j e Reach.here h = inr (refl, h)
      split j e (Reach.down {c = c} m r) h = inl (record { child = c; among = m; holds = record { depth = e; reach = r; over = h } })

  -- ---- from the body of each module down
  -- too deep below the body of frame f, if that is a module
  record DeepIn (f : Frame) (j : ℕ) : Type 0 where
    module_frame : f.kind ≡ Module
    deep : Deep fs f.a 1 j

  not_module : (k : Kind) → is_module k ≡ false → k ≡ Module → ⊥
  not_module k h e = true≢false (sym (ap is_module e) ∙ h)

  body_low : (f : Frame) → (f.kind ≡ Module → f.a < length fs) → Lowest (DeepIn f) (deep_in fs f)
  body_low f h = go (is_module f.kind) refl
    where
      go : (b : Bool) → is_module f.kind ≡ b
          → Lowest (DeepIn f) (elim b [ true ↦ deep_to (suc f.a) fs 1 f.a | false ↦ None ])
      go true t =
          let e = is_module_lem f.kind t in
          same_low (λ j p. record { module_frame = e; deep = p }) (λ j p. p.deep)
          (deep_low (suc f.a) f.a 1 (omega arith) (h e))
      go false t = Lowest.nowhere (λ j p. not_module f.kind t p.module_frame)

  -- too deep below the body of a module among the frames of the list
  record DeepAmong (tail : List Frame) (j : ℕ) : Type 0 where
    at : ℕ
    inside : at < length tail
    deep : DeepIn (frame_at tail at) j

  body_inside : (i : ℕ) → i < length fs → (frame_at fs i).kind ≡ Module → (frame_at fs i).a < length fs
  body_inside i l e = let t = tree_in (trees i l).tree (in_body (frame_at fs i) e) in omega arith

  bodies_low : (tail : List Frame) (i : ℕ) → From fs i tail
      → Lowest (DeepAmong tail) (first_deep fs tail)
  unfolding first_deep
  bodies_low [] i w = Lowest.nowhere (λ j p. (let l = p.inside in omega arith))
  bodies_low (f ∷ tail) i w = same_low (λ j. ⊎_elim (λ p. record { at = 0; inside = omega arith; deep = p }) (λ p. record { at = suc p.at; inside = (let l = p.inside in omega arith); deep = p.deep })) (λ j p. split j p.at p.inside p.deep)
      (either (body_low f fits) (bodies_low tail (suc i) (from_next w)))
    where
      fits : f.kind ≡ Module → f.a < length fs
      fits e =
          let z : i + 0 ≡ i = omega arith in
          let q : f ≡ frame_at fs i = w.same 0 ∙ ap (frame_at fs) z in
          let l : i < length fs = (let s = w.size in omega arith) in
          let a : (frame_at fs i).kind ≡ Module = ap (λ (g : Frame). g.kind) (sym q) ∙ e in
          let b : f.a ≡ (frame_at fs i).a = ap (λ (g : Frame). g.a) q in
          let c = body_inside i l a in
          omega arith

      split : (j q : ℕ) → q < suc (length tail) → DeepIn (frame_at (f ∷ tail) q) j
          → DeepIn f j ⊎ DeepAmong tail j
      split j zero l p = inl p
      split j (suc q) l p = inr (record { at = q; inside = omega arith; deep = p })

  -- every depth is found below the body of a module
  record Under (j e : ℕ) : Type 0 where
    at : ℕ
    inside : at < length fs
    kind : (frame_at fs at).kind ≡ Module
    reach : Reach fs (frame_at fs at).a 1 j e

  under : {j e : ℕ} → Depth fs j e → Under j e
  under (Depth.body {i = i} l k) = record { at = i; inside = l; kind = k; reach = Reach.here }
  under (Depth.child d m) =
      let u = under d in
      record { at = u.at; inside = u.inside; kind = u.kind; reach = reach_on u.reach m }

  to_deep : {j : ℕ} → AtLeast fs j 25 → DeepAmong fs j
  to_deep a =
      let u = under a.is in
      record { at = u.at; inside = u.inside; deep = record { module_frame = u.kind; deep = record { depth = a.depth; reach = u.reach; over = a.least } } }

  pub depth_low : Lowest (Fault fs TooDeep) (depth_fault fs)
  unfolding depth_fault
  depth_low = same_low (λ j p. Fault.depth (depth_on p.deep.deep.reach (Depth.body p.inside p.deep.module_frame)) p.deep.deep.over) (λ j f. to_deep (seven f refl)) (bodies_low fs 0 (from_start fs))
