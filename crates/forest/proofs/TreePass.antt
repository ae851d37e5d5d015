-- The code's passes for refusal 21: the children and the uses, the cycles, and the lower of both.
-- Assumes nothing.
use mathlib.Core.Path.{◌≡◌, refl, sym, ap, ap₂, subst, ◌∙◌}
use mathlib.Core.Logic.{◌⊎◌, inl, inr, ⊎_elim}
use mathlib.Core.Bool.{Bool, true, false, ◌||◌, true≢false}
use mathlib.Core.List.{List}
use Rattle.std.specs.Prelude.{Option, Some, None, MatchOption, unwrap_or}
use Prim.Native.Nat.{ℕ, min, ◌+◌, ◌≤◌, ◌<◌}
use native.Mathlib.Omega.{arith}
use lib.Dec.{eqb, leb, ltb}
use lib.ListN.{get_or, length, take}
use lib.Seq.{length-take-le}
use borrow.Author.Tests.{eq-eqb, ne_eqb, leb-true, leb-false, ltb-true, ltb-false}
use Rattle.basics.proofs.Ifs.{or_true, or_left, or_right}
use Rattle.basics.specs.Inner.Searches.{lowest, earlier}
use Rattle.language.specs.declared.frame.Frame.{Frame}
use Rattle.text.specs.Frames.{frames_of}
use Rattle.text.proofs.FrameWords.{frames_length}
use Rattle.program.specs.Trees.{no_frame, frame_at}
use Rattle.layout.specs.Uses.{used}
use Rattle.layout.specs.Inner.Uses.{CountsUses}
use Rattle.layout.proofs.Searches.{Lowest, either, lowest_one, lowest_all}
use Rattle.layout.proofs.UseCounts.{cap_full, cap_few}
use Rattle.drawing.specs.Inner.Finds.{is_below, is_tree_fault, tree_fault_at}
use Rattle.forest.specs.Inner.FrameTests.{has_child_from, is_use_fault, is_cycle_fault}
use Rattle.forest.specs.Inner.Walks.{NoCycleBefore}

-- ---- a count of 2 is a frame used twice
twice_is : (n k : ℕ) → k ≡ min 2 n → eqb k 2 ≡ leb 2 n
twice_is n k e = go (leb 2 n) refl
  where
    go : (b : Bool) → leb 2 n ≡ b → eqb k 2 ≡ b
    go true h = eq-eqb k 2 (e ∙ cap_full n (leb-true 2 n h))
    go false h =
        let l = leb-false 2 n h in
        let m : min 2 n ≡ n = cap_few n (omega arith) in
        ne_eqb k 2 (λ t. omega arith)

-- ---- one frame: x is what the code answered of its children's numbers
module _ (ws : List ℕ) (i : ℕ) (f : Frame) (x : Bool)
    (e : f ≡ frame_at (frames_of ws) i) (h : x ≡ has_child_from (length ws) f) where
  missing_is : has_child_from (length (frames_of ws)) (frame_at (frames_of ws) i) ≡ x
  missing_is =
      ap (λ (n : ℕ). has_child_from n (frame_at (frames_of ws) i)) (frames_length ws)
      ∙ sym (h ∙ ap (has_child_from (length ws)) e)

  pub use_missing : x ≡ true → x ≡ is_use_fault (frames_of ws) i (frame_at (frames_of ws) i)
  unfolding is_use_fault
  use_missing t = t ∙ sym (or_left _ _ (missing_is ∙ t))

  pub use_twice : (u : List ℕ) → x ≡ false → CountsUses (frames_of ws) u → i < length ws
      → length ws ≤ 1024
      → eqb (get_or u i 0) 2 ≡ is_use_fault (frames_of ws) i (frame_at (frames_of ws) i)
  unfolding is_use_fault
  use_twice u t cs l m =
      twice_is (used i (frames_of ws)) _ (cs i (omega arith))
      ∙ sym (ap (λ (b : Bool). b || leb 2 (used i (frames_of ws))) (missing_is ∙ t))

-- ---- the loop over the cycles among the first n frames
abbrev CycleHit : List Frame → ℕ → ℕ → Type 0
CycleHit fs n j = (j < length (take n fs)) × (is_below fs j j ≡ true)

lowest_cycle : (fs : List Frame) (n : ℕ)
    → Lowest (CycleHit fs n) (lowest (is_cycle_fault fs) 0 (take n fs))
lowest_cycle fs n = lowest_all no_frame (is_cycle_fault fs) (take n fs)

short : (ws : List ℕ) (n : ℕ) → n ≤ length ws → length (take n (frames_of ws)) ≡ n
short ws n l = (let z = frames_length ws in length-take-le n (frames_of ws) (omega arith))

module _ (ws : List ℕ) (i : ℕ) (b : Bool) (h : b ≡ is_below (frames_of ws) i i) where
  pub no_cycle_next : b ≡ false → NoCycleBefore (frames_of ws) i
      → NoCycleBefore (frames_of ws) (i + 1)
  no_cycle_next t none_yet j l = go (ltb j i) refl
    where
      go : (c : Bool) → ltb j i ≡ c → is_below (frames_of ws) j j ≡ false
      go true e = none_yet j (ltb-true j i e)
      go false e =
          let m = ltb-false j i e in
          let q : i ≡ j = omega arith in
          subst (λ (y : ℕ). is_below (frames_of ws) y y ≡ false) q (sym h ∙ t)

  pub cycle_here : (n : ℕ) → b ≡ true → NoCycleBefore (frames_of ws) i → i < n → n ≤ length ws
      → Some i ≡ lowest (is_cycle_fault (frames_of ws)) 0 (take n (frames_of ws))
  cycle_here n t none_yet l m = lowest_one low (lowest_cycle (frames_of ws) n)
    where
      first : (k : ℕ) → CycleHit (frames_of ws) n k → i ≤ k
      first k p = go (leb i k) refl
        where
          go : (c : Bool) → leb i k ≡ c → i ≤ k
          go true e = leb-true i k e
          go false e = absurd (true≢false (sym p.1 ∙ none_yet k (leb-false i k e)))

      low : Lowest (CycleHit (frames_of ws) n) (Some i)
      low =
          let z = short ws n m in
          Lowest.lowest_at {j = i} (omega arith, sym h ∙ t) first

pub cycle_end : (ws : List ℕ) (i n : ℕ) → NoCycleBefore (frames_of ws) i → n ≤ i → n ≤ length ws
    → None ≡ lowest (is_cycle_fault (frames_of ws)) 0 (take n (frames_of ws))
cycle_end ws i n none_yet l m =
    lowest_one (Lowest.nowhere never) (lowest_cycle (frames_of ws) n)
  where
    never : (k : ℕ) → CycleHit (frames_of ws) n k → ⊥
    never k p =
        let z = short ws n m in
        let a = p.0 in
        true≢false (sym p.1 ∙ none_yet k (omega arith))

-- ---- both halves
or_or : (a b c : Bool) → (a || (b || c)) ≡ ((a || b) || c)
or_or true b c = refl
or_or false b c = refl

halves : (fs : List Frame) (i : ℕ) (f : Frame)
    → is_tree_fault fs i f ≡ (is_use_fault fs i f || is_below fs i i)
unfolding is_tree_fault is_use_fault has_child_from
halves fs i f = or_or (has_child_from (length fs) f) (leb 2 (used i fs)) (is_below fs i i)

-- a number that is not after k has the property P
record NotAfter (P : ℕ → Type 0) (k : ℕ) : Type 0 where
  at : ℕ
  low : at ≤ k
  has : P at

-- where Q holds, P holds of a number not after it: the lowest of P is the lowest of Q
low_more : {P Q : ℕ → Type 0} {o : Option ℕ} → ((j : ℕ) → P j → Q j)
    → ((j : ℕ) → Q j → NotAfter P j) → Lowest P o → Lowest Q o
low_more f g (Lowest.nowhere h) = Lowest.nowhere (λ j q. let b = g j q in h b.at b.has)
low_more f g (Lowest.lowest_at {j = j} p l) =
    Lowest.lowest_at (f j p)
    (λ k q.
    let b = g k q in
    let a = l b.at b.has in
    let c = b.low in
    omega arith)

-- the search among m found n: it is not after those from n on
from_found : {P : ℕ → Type 0} {o : Option ℕ} (n m j : ℕ) → Lowest P o → n ≡ unwrap_or o m
    → n ≤ j → j < m → NotAfter P j
from_found n m j (Lowest.nowhere h) e l k = absurd (omega arith)
from_found n m j (Lowest.lowest_at {j = i} p h) e l k =
    record { at = i; low = omega arith; has = p }

abbrev UseHit : List Frame → ℕ → Type 0
UseHit fs j = (j < length fs) × (is_use_fault fs j (frame_at fs j) ≡ true)

abbrev TreeHit : List Frame → ℕ → Type 0
TreeHit fs j = (j < length fs) × (is_tree_fault fs j (frame_at fs j) ≡ true)

abbrev EitherHit : List Frame → ℕ → ℕ → Type 0
EitherHit fs n j = UseHit fs j ⊎ CycleHit fs n j

lowest_use : (fs : List Frame) → Lowest (UseHit fs) (lowest (is_use_fault fs) 0 fs)
lowest_use fs = lowest_all no_frame (is_use_fault fs) fs

-- those before it are at most all
bounded : {P : ℕ → Type 0} {o : Option ℕ} (n m : ℕ) → Lowest P o → ((j : ℕ) → P j → j < m)
    → n ≡ unwrap_or o m → n ≤ m
bounded n m (Lowest.nowhere h) f e = omega arith
bounded n m (Lowest.lowest_at {j = j} p h) f e = (let l = f j p in omega arith)

module _ (fs : List Frame) (n : ℕ)
    (e : n ≡ unwrap_or (lowest (is_use_fault fs) 0 fs) (length fs)) where
  inside : n ≤ length fs
  inside = bounded n (length fs) (lowest_use fs) (λ j h. h.0) e

  tree_earlier : earlier (lowest (is_use_fault fs) 0 fs) (lowest (is_cycle_fault fs) 0 (take n fs))
      ≡ tree_fault_at fs
  unfolding tree_fault_at
  tree_earlier =
      lowest_one (low_more to back (either (lowest_use fs) (lowest_cycle fs n)))
      (lowest_all no_frame (is_tree_fault fs) fs)
    where
      size : length (take n fs) ≡ n
      size = length-take-le n fs inside

      to : (j : ℕ) → EitherHit fs n j → TreeHit fs j
      to j =
          let f = frame_at fs j in
          ⊎_elim (λ h. (h.0, halves fs j f ∙ or_left _ (is_below fs j j) h.1))
          (λ h. (
            let l = h.0 in let s = size in let m = inside in omega arith,
            halves fs j f ∙ or_right (is_use_fault fs j f) _ h.1,
          ))

      -- a cycle that was not looked for comes after the frame that was found
      cycle_back : (j : ℕ) → j < length fs → is_below fs j j ≡ true
          → NotAfter (EitherHit fs n) j
      cycle_back j l h = go (ltb j n) refl
        where
          go : (b : Bool) → ltb j n ≡ b → NotAfter (EitherHit fs n) j
          go true q =
              let s = size in
              let k = ltb-true j n q in
              let i : j < length (take n fs) = omega arith in
              record { at = j; low = omega arith; has = inr (i, h) }
          go false q =
              let k = from_found n (length fs) j (lowest_use fs) e (ltb-false j n q) l in
              record { at = k.at; low = k.low; has = inl k.has }

      back : (j : ℕ) → TreeHit fs j → NotAfter (EitherHit fs n) j
      back j h =
          let f = frame_at fs j in
          ⊎_elim (λ p. record { at = j; low = omega arith; has = inl (h.0, p) })
          (λ q. cycle_back j h.0 q)
          (or_true (is_use_fault fs j f) (is_below fs j j) (sym (halves fs j f) ∙ h.1))

-- ---- as the code has it
pub before_is : (a : Option ℕ) (n r : ℕ) → MatchOption a (r ≡ n) (λ j. r ≡ j)
    → r ≡ unwrap_or a n
before_is None n r h = h
before_is (Some j) n r h = h

module _ (ws : List ℕ) (a : Option ℕ) (n : ℕ)
    (p : a ≡ lowest (is_use_fault (frames_of ws)) 0 (frames_of ws))
    (q : n ≡ unwrap_or a (length ws)) where
  until_is : n
      ≡ unwrap_or (lowest (is_use_fault (frames_of ws)) 0 (frames_of ws)) (length (frames_of ws))
  until_is = q ∙ ap₂ unwrap_or p (sym (frames_length ws))

  pub before_inside : n ≤ length ws
  before_inside =
      let z = frames_length ws in
      let l = inside (frames_of ws) n until_is in
      omega arith

  pub tree_is : (b r : Option ℕ)
      → b ≡ lowest (is_cycle_fault (frames_of ws)) 0 (take n (frames_of ws))
      → r ≡ earlier a b → r ≡ tree_fault_at (frames_of ws)
  tree_is b r s h = h ∙ ap₂ earlier p s ∙ tree_earlier (frames_of ws) n until_is

pub ruleset use_test_laws = (use_missing, use_twice)

pub ruleset cycle_laws = (no_cycle_next, cycle_here, cycle_end)
