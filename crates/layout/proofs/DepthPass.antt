-- In a file without fault 6 the code's depth pass finds what refusal 7 names. Assumes nothing.
use mathlib.Core.Path.{◌≡◌, refl, sym, ap, ◌∙◌}
use mathlib.Core.Bool.{Bool, true}
use mathlib.Core.List.{List}
use Rattle.std.specs.Prelude.{Option, None, find}
use Rattle.std.specs.List.{range_with_len}
use Prim.Native.Nat.{ℕ, zero, suc, ◌≤◌, ◌<◌}
use native.Mathlib.Omega.{arith}
use lib.Dec.{ltb}
use borrow.Author.Tests.{ltb-true, lt-ltb}
use lib.ListN.{get_or, length, replicate, length-replicate}
use Rattle.basics.specs.Members.{In}
use Rattle.basics.specs.Inner.Searches.{lowest}
use Rattle.language.specs.declared.refusal.Rule.TheVariants.{WrongOrder, TooDeep}
use Rattle.language.specs.Kinds.{Child, children}
use Rattle.language.specs.declared.frame.Frame.{Frame}
use Rattle.text.specs.Frames.{frames_of}
use Rattle.text.proofs.FrameWords.{frames_length}
use Rattle.program.specs.Trees.{no_frame, frame_at}
use Rattle.fields.proofs.Seeking.{find_lowest}
use Rattle.layout.specs.Faults.{Fault}
use Rattle.layout.specs.Inner.Scans.{order_fault, depth_fault}
use Rattle.layout.specs.Inner.Passes.{depths_down, first_over}
use Rattle.layout.proofs.Searches.{Lowest, same_low, lowest_all, lowest_one}
use Rattle.layout.proofs.Trees.{HasTree, tree_in}
use Rattle.layout.proofs.Order.{order_low, all_trees}
use Rattle.layout.proofs.Depths.{seven, depth_low}
use Rattle.layout.proofs.DepthArray.{over_sound, over_complete, inside}

-- ---- what the array says is the lowest frame too deep
abbrev over_test : List Frame → ℕ → Frame → Bool
over_test fs i f = ltb 24 (get_or (depths_down (length fs) fs (replicate 1024 0)) i 0)

zeros : (n j : ℕ) → ◌≡◌ {A = ℕ} (get_or (replicate n 0) j 0) 0
zeros zero j = refl
zeros (suc n) zero = refl
zeros (suc n) (suc j) = zeros n j

over_is : (fs : List Frame) → length fs ≤ 1024 → ((j : ℕ) → j < length fs → HasTree fs j)
    → first_over fs ≡ depth_fault fs
unfolding first_over
over_is fs r trees =
    lowest_one (same_low to back (lowest_all no_frame (over_test fs) fs)) (depth_low fs trees)
  where
    below : (i : ℕ) (c : Child) → i < length fs → In c (children (frame_at fs i)) → c.at < i
    below i c l m = tree_in (trees i l).tree m

    long : length fs ≤ length (replicate {A = ℕ} 1024 0)
    long = (let e : length (replicate {A = ℕ} 1024 0) ≡ 1024 = length-replicate {A = ℕ} 1024 0 in omega arith)

    to : (j : ℕ) → (j < length fs) × (over_test fs j (frame_at fs j) ≡ true) → Fault fs TooDeep j
    to j p = (let a = over_sound fs below (replicate 1024 0) r long (zeros 1024) j (ltb-true _ _ p.1) in Fault.depth a.is a.least)

    back : (j : ℕ) → Fault fs TooDeep j → (j < length fs) × (over_test fs j (frame_at fs j) ≡ true)
    back j f = (let a = seven f refl in (inside fs below a.is, lt-ltb _ _ (over_complete fs below (replicate 1024 0) r long (zeros 1024) j a.depth a.is a.least)))

-- where the search for a fault 6 finds nothing, there is none
no_six : (fs : List Frame) (o : Option ℕ) → Lowest (Fault fs WrongOrder) o → o ≡ None → (k : ℕ)
    → Fault fs WrongOrder k → ⊥
no_six fs None (Lowest.nowhere h) e k f = h k f
no_six fs o (Lowest.lowest_at p l) e k f = let z : ◌≡◌ {A = ℕ} 0 1 = cc in omega arith

over_depth : (ws : List ℕ) → 0 < length ws → length ws ≤ 1024 → order_fault (frames_of ws) ≡ None
    → first_over (frames_of ws) ≡ depth_fault (frames_of ws)
over_depth ws l m e =
    let z = frames_length ws in
    over_is (frames_of ws) (omega arith) (all_trees (frames_of ws) (no_six (frames_of ws) (order_fault (frames_of ws)) (order_low (frames_of ws) (omega arith)) e))

-- ---- the chain that looks: the code's test of frame i, whose depth stands in the array u
abbrev pub is_over : List ℕ → ℕ → Bool
is_over u i = ltb 24 (get_or u i 0)

over_first : (ws : List ℕ)
    → lowest (over_test (frames_of ws)) 0 (frames_of ws) ≡ first_over (frames_of ws)
unfolding first_over
over_first ws = refl

module _ (ws u : List ℕ)
    (e : u ≡ depths_down (length ws) (frames_of ws) (replicate 1024 0)) where
  test_is : (i : ℕ) → i < length ws
      → over_test (frames_of ws) i (frame_at (frames_of ws) i) ≡ is_over u i
  test_is i l =
      ap (λ (n : ℕ). ltb 24 (get_or (depths_down n (frames_of ws) (replicate 1024 0)) i 0))
      (frames_length ws)
      ∙ ap (λ (x : List ℕ). ltb 24 (get_or x i 0)) (sym e)

  pub over_found : order_fault (frames_of ws) ≡ None → 0 < length ws → length ws ≤ 1024
      → find (is_over u) (range_with_len 0 (length ws)) ≡ depth_fault (frames_of ws)
  over_found o p m =
      find_lowest (over_test (frames_of ws)) ws (is_over u) test_is
      ∙ over_first ws ∙ over_depth ws p m o
