-- Where the frames form trees of the right shape, a frame is too deep exactly where one can climb
-- more than 24 times from it. Assumes nothing.
use mathlib.Core.Path.{◌≡◌, refl, sym, ap, subst, ◌∙◌}
use mathlib.Core.Bool.{Bool, true, false, true≢false}
use mathlib.Core.List.{List}
use Rattle.std.specs.Prelude.{Option, None, find}
use Rattle.std.specs.List.{range_with_len}
use Prim.Native.Nat.{ℕ, zero, suc, ◌+◌, ◌≤◌, ◌<◌}
use native.Mathlib.Omega.{arith}
use lib.Dec.{leb}
use lib.ListN.{length, get_or}
use borrow.Author.Tests.{leb-true, leb-false}
use Rattle.basics.specs.Members.{In, any}
use Rattle.basics.specs.Inner.Searches.{lowest}
use Rattle.language.specs.Kinds.{class_of, Child, children}
use Rattle.language.specs.Limits.{most_lines, most_depth}
use Rattle.language.specs.declared.frame.Frame.{Frame}
use Rattle.language.specs.declared.refusal.Rule.TheVariants.{TooDeep}
use Rattle.text.specs.Frames.{frames_of}
use Rattle.text.proofs.FrameWords.{frames_length}
use Rattle.program.specs.Trees.{no_frame, frame_at}
use Rattle.fields.proofs.Seeking.{find_lowest}
use Rattle.layout.specs.Order.{has_child, has_class}
use Rattle.layout.specs.Uses.{used}
use Rattle.layout.specs.Depths.{Depth}
use Rattle.layout.specs.Faults.{Fault}
use Rattle.layout.proofs.Searches.{Lowest, same_low, lowest_all, lowest_one, any-true, any_false}
use Rattle.layout.proofs.Trees.{Among, in_body}
use Rattle.layout.proofs.Depths.{AtLeast, seven, body_depth, child_depth}
use Rattle.layout.proofs.Users.{Parent, parent, among_children}
use Rattle.drawing.specs.Writings as writings
use Rattle.drawing.specs.TreeFaults.{TreeFault, ShapeFault}
use Rattle.drawing.specs.Inner.Heights.{Within, within}
use Rattle.drawing.specs.Inner.Finds.{tree_fault_at, shape_fault_at, depth_fault_at}
use Rattle.drawing.proofs.Cycles.{has_child_lem, only_frames, within_all}
use Rattle.drawing.proofs.FaultTests.{tree_low, shape_low}
use Rattle.drawing.proofs.Answers.{all_inside, no_cycle, depth_lowest}
use Rattle.forest.specs.Inner.Climbs.{users_of, climbs, UsersInside}
use Rattle.forest.proofs.UserArray.{user_of, user_inside, user_is}
use Rattle.forest.proofs.Climbing.{climbs_stop, climbs_on}

abbrev deep_test : List Frame → ℕ → Frame → Bool
deep_test fs j f = climbs (users_of fs) (suc most_depth) j

-- ---- n steps from frame i down to frame j; a tree has no more steps than it is high
data Steps (fs : List Frame) : ℕ → ℕ → ℕ → Type 0 where
  here : {i : ℕ} → Steps fs 0 i i
  down : {n i j : ℕ} {c : Child}
      → In c (children (frame_at fs i)) → Steps fs n c.at j → Steps fs (suc n) i j

steps_within : {fs : List Frame} {n d i j : ℕ} → Steps fs n i j → Within fs d i → n < d
steps_within Steps.here (within g) = omega arith
steps_within (Steps.down {c = c} m p) (within g) = let a = steps_within p (g c m) in omega arith

module _ (fs : List Frame) (short : length fs ≤ most_lines) (trees : writings.NoneAt (TreeFault fs))
    (shaped : writings.NoneAt (ShapeFault fs)) where
  -- a statement or an expression has a user
  user : (j : ℕ) → j < length fs → has_class (class_of (frame_at fs j).kind) ≡ true
      → (i : ℕ) × (i < length fs) × Among (children (frame_at fs i)) j
  user j l k = go (any (has_child j) fs) refl
    where
      go : (b : Bool) → any (has_child j) fs ≡ b
          → (i : ℕ) × (i < length fs) × Among (children (frame_at fs i)) j
      go true e =
          let p = any-true no_frame (has_child j) fs e in
          (p.at, p.inside, among_children j (frame_at fs p.at) p.passes)
      go false e =
          let unused = any_false no_frame (has_child j) fs e in
          absurd (shaped j (ShapeFault.leftover l k (λ i q. unused i q)))

  -- every child has a depth: the way up ends, and it ends in a module. k bounds the steps up
  child_stands : (k n i j : ℕ) (c : Child) → n + k ≡ suc (length fs) → Steps fs n i j
      → In c (children (frame_at fs i)) → AtLeast fs c.at 1
  child_stands zero n i j c s p m =
      let a = steps_within p (within_all fs (all_inside fs trees) (no_cycle fs trees) i) in
      absurd (omega arith)
  child_stands (suc k) n i j c s p m =
      go (parent (frame_at fs i) c m) (λ q x r h. child_stands k (suc n) q j x (omega arith) r h)
    where
      it : Among (children (frame_at fs i)) c.at
      it = record { child = c; among = m; at_it = refl }

      Over : Type 0
      Over =
          (q : ℕ) (x : Child) → Steps fs (suc n) q j → In x (children (frame_at fs q))
          → AtLeast fs x.at 1

      over : (q : ℕ) → Among (children (frame_at fs q)) i → Over → AtLeast fs i 1
      over q h rec =
          let r = subst (λ (x : ℕ). Steps fs n x j) (sym h.at_it) p in
          let a = rec q h.child (Steps.down h.among r) h.among in
          subst (λ (x : ℕ). AtLeast fs x 1) h.at_it a

      up : AtLeast fs i 1 → AtLeast fs c.at 1
      up a = record { depth = suc a.depth; is = child_depth a.is it; least = omega arith }

      go : Parent (frame_at fs i).kind → Over → AtLeast fs c.at 1
      go (Parent.of_module e) rec =
          record { depth = 1; is = body_depth (only_frames fs i c m) e it; least = omega arith }
      go (Parent.of_class e) rec =
          let u = user i (only_frames fs i c m) e in up (over u.0 u.2 rec)

  abbrev users : List ℕ
  users = users_of fs

  -- ---- a climb gives a depth
  climb_depth : (n j : ℕ) → j < length fs → climbs users (suc n) j ≡ true → AtLeast fs j (suc n)
  climb_depth zero j l e = go (get_or users j 0) refl
    where
      go : (x : ℕ) → get_or users j 0 ≡ x → AtLeast fs j 1
      go zero z = absurd (true≢false (sym e ∙ climbs_stop users 0 j z))
      go (suc i) z =
          let u = user_of j (omega arith) fs i z in
          let h = among_children j (frame_at fs i) u.1 in
          let s : 0 + suc (length fs) ≡ suc (length fs) = omega arith in
          let a = child_stands (suc (length fs)) 0 i i h.child s Steps.here h.among in
          subst (λ (x : ℕ). AtLeast fs x 1) h.at_it a
  climb_depth (suc n) j l e = go (get_or users j 0) refl (λ i q h. climb_depth n i q h)
    where
      go : (x : ℕ) → get_or users j 0 ≡ x
          → ((i : ℕ) → i < length fs → climbs users (suc n) i ≡ true → AtLeast fs i (suc n))
          → AtLeast fs j (suc (suc n))
      go zero z rec = absurd (true≢false (sym e ∙ climbs_stop users (suc n) j z))
      go (suc i) z rec =
          let u = user_of j (omega arith) fs i z in
          let h = among_children j (frame_at fs i) u.1 in
          let a = rec i u.0 (sym (climbs_on users (suc n) j i z) ∙ e) in
          let b = a.least in
          record { depth = suc a.depth; is = child_depth a.is h; least = omega arith }

  -- ---- a depth gives a climb, since each frame has one user at most
  once : (j : ℕ) → j < length fs → used j fs ≤ 1
  once j l = go (leb 2 (used j fs)) refl
    where
      go : (b : Bool) → leb 2 (used j fs) ≡ b → used j fs ≤ 1
      go true e = absurd (trees j (TreeFault.twice l (leb-true 2 (used j fs) e)))
      go false e = let a = leb-false 2 (used j fs) e in omega arith

  user_there : (i : ℕ) (c : Child) → In c (children (frame_at fs i))
      → get_or users c.at 0 ≡ suc i
  user_there i c m =
      let l = all_inside fs trees i c m in
      let k = only_frames fs i c m in
      user_is c.at (omega arith) fs i (once c.at l) k (has_child_lem (frame_at fs i) m)

  depth_climb : {j d : ℕ} → Depth fs j d → (n : ℕ) → n ≤ d → climbs users n j ≡ true
  unfolding climbs
  depth_climb h zero l = refl
  depth_climb (Depth.body {i = i} q k) (suc n) l =
      let z : n ≡ 0 = omega arith in
      climbs_on users n (frame_at fs i).a i (user_there i _ (in_body (frame_at fs i) k))
      ∙ ap (λ (x : ℕ). climbs users x i) z
  depth_climb (Depth.child {i = i} {c = c} h m) (suc n) l =
      climbs_on users n c.at i (user_there i c m) ∙ depth_climb h n (omega arith)

  depth_inside : {j d : ℕ} → Depth fs j d → j < length fs
  depth_inside (Depth.body {i = i} q k) = all_inside fs trees i _ (in_body (frame_at fs i) k)
  depth_inside (Depth.child {i = i} {c = c} h m) = all_inside fs trees i c m

  -- ---- so the lowest of the one kind is the lowest of the other
  deep_is : (j : ℕ) → Fault fs TooDeep j → (j < length fs) × (climbs users (suc most_depth) j ≡ true)
  deep_is j f =
      let a = seven f refl in
      (depth_inside a.is, depth_climb a.is (suc most_depth) a.least)

  is_deep : (j : ℕ) → (j < length fs) × (climbs users (suc most_depth) j ≡ true) → Fault fs TooDeep j
  is_deep j h = let a = climb_depth most_depth j h.0 h.1 in Fault.depth a.is a.least

  climb_lowest : lowest (deep_test fs) 0 fs ≡ depth_fault_at fs
  climb_lowest =
      let low = same_low is_deep deep_is (lowest_all no_frame (deep_test fs) fs) in
      lowest_one low (depth_lowest fs trees)

-- a search that finds nothing
nothing : {P : ℕ → Type 0} {o : Option ℕ} → Lowest P o → o ≡ None → writings.NoneAt P
nothing (Lowest.nowhere h) e j p = h j p
nothing (Lowest.lowest_at q l) e j p = let z : ◌≡◌ {A = ℕ} 0 1 = cc in omega arith

-- ---- the chain that looks
deep_first : (ws : List ℕ) → length ws ≤ most_lines → tree_fault_at (frames_of ws) ≡ None
    → shape_fault_at (frames_of ws) ≡ None
    → lowest (deep_test (frames_of ws)) 0 (frames_of ws) ≡ depth_fault_at (frames_of ws)
deep_first ws l t s =
    let n = frames_length ws in
    let trees = nothing (tree_low (frames_of ws)) t in
    let shaped = nothing (shape_low (frames_of ws)) s in
    climb_lowest (frames_of ws) (omega arith) trees shaped

module _ (ws u : List ℕ) (e : u ≡ users_of (frames_of ws)) where
  pub users_inside : length ws ≤ most_lines → UsersInside u
  users_inside l j q =
      let n = frames_length ws in
      let a = ap (λ (x : List ℕ). get_or x j 0) e in
      let b = user_inside j q (frames_of ws) (omega arith) in
      omega arith

  test_is : (i : ℕ) → i < length ws
      → climbs (users_of (frames_of ws)) (suc most_depth) i ≡ climbs u (suc most_depth) i
  test_is i l = ap (λ (x : List ℕ). climbs x (suc most_depth) i) (sym e)

  pub deep_found : tree_fault_at (frames_of ws) ≡ None → shape_fault_at (frames_of ws) ≡ None
      → length ws ≤ most_lines
      → find (climbs u (suc most_depth)) (range_with_len 0 (length ws))
      ≡ depth_fault_at (frames_of ws)
  deep_found t s m =
      find_lowest (deep_test (frames_of ws)) ws (climbs u (suc most_depth)) test_is
      ∙ deep_first ws m t s
