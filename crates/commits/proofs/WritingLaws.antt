-- The single writes that a commit is made of: cells cleared, a thread settled, a scheduler's list
-- left or joined, and the test of room before it. Assumes nothing.
use Rattle.std.specs.Prelude.{Option, Some, None}
use Prim.Native.Nat.{ℕ, zero, suc, ◌+◌, ◌*◌, ◌-◌, ◌<◌, ◌≤◌}
use mathlib.Core.Path.{◌≡◌, refl, sym, ap, ◌∙◌}
use mathlib.Core.List.{List, [], ◌∷◌}
use mathlib.Core.Bool.{Bool, true, false, not}
use native.Mathlib.Omega.{arith}
use lib.ListN.{get_or, length, set, replicate}
use lib.Seq.{get_or-set_other}
use lib.Dec.{leb, ltb, eqb}
use borrow.Author.Tests.{not-false}
use Rattle.basics.proofs.Ifs.{yes, no, if_all, and_true}
use Rattle.language.specs.Places.{home, is_place, is_scheduler}
use Rattle.language.specs.Inner.Reads.{place_read}
use Rattle.language.specs.declared.Place.{Place}
use Rattle.language.proofs.PlaceLaws.{read_at, read_none, test_bounds}
use Rattle.machine.specs.Inner.Blocks.{part, pasted}
use Rattle.machine.proofs.WordLaws.{pasted_zero}
use Rattle.lists.specs.Inner.Lists.{shifted, without_first, with_last}
use Rattle.states.specs.declared.thread.ThreadWords.{ThreadWords}
use Rattle.states.specs.Inner.Threads.{thread_in, put_thread}
use Rattle.states.proofs.ThreadLaws.{Wide, in_wide, put_read, put_then}
use Rattle.acts.specs.declared.act.Change.{Change}
use Rattle.acts.specs.Inner.Transitions.{changed, popped, RoomFor}
use Rattle.commits.specs.Inner.Commits.{cleared_in, settled_in, left_in, room_in, joined_in}
use Rattle.commits.specs.Inner.Commits.{SettleWords}
use Rattle.commits.proofs.ChangeLaws.{popped_wide, changed_wide, popped_items}
use Rattle.commits.proofs.ChangeLaws.{popped_values, popped_place}

-- ---- cells cleared: none there, and some; the count is written after that

-- the words of the cells from `from` on, of which so many are 0
abbrev zeroed : List ℕ → ℕ → ℕ → ℕ → List ℕ
zeroed w from upto n = pasted w (4578 + from) (replicate (upto - from) 0) n

pub cells_none : (w : List ℕ) (from : ℕ) → get_or w 1 0 ≤ from → set w 1 from ≡ cleared_in w from
unfolding cleared_in
cells_none w from l =
    let z : 0 ≡ get_or w 1 0 - from = omega arith in
    ap (λ (v : List ℕ). set v 1 from)
    (pasted_zero w (4578 + from) (replicate (get_or w 1 0 - from) 0)
    ∙ ap (zeroed w from (get_or w 1 0)) z)

pub cells_filled : (w v : List ℕ) (from k : ℕ) → k ≡ get_or w 1 0 - from
    → v ≡ pasted w (4578 + from) (replicate k 0) k → set v 1 from ≡ cleared_in w from
unfolding cleared_in
cells_filled w v from k e h =
    ap (λ (u : List ℕ). set u 1 from)
    (h ∙ ap (λ (m : ℕ). pasted w (4578 + from) (replicate m 0) m) e)

-- ---- a thread settled: its top item is taken off, then the change made
module _ (w : List ℕ) (k : ℕ) (c : Change) (h : SettleWords w k c) (v : List ℕ)
    (e : v ≡ put_thread w k (popped (thread_in w k))) where
  wide : Wide (popped (thread_in w k))
  wide = popped_wide (thread_in w k) (in_wide w k h.all h.thread)

  here : thread_in v k ≡ popped (thread_in w k)
  here =
      ap (λ (l : List ℕ). thread_in l k) e
      ∙ put_read w k h.all h.thread (popped (thread_in w k)) wide

  items_here : (thread_in v k).items ≡ (thread_in w k).items - 1
  items_here = ap (λ (x : ThreadWords). x.items) here ∙ popped_items (thread_in w k)

  values_here : (thread_in v k).values ≡ (thread_in w k).values
  values_here = ap (λ (x : ThreadWords). x.values) here ∙ popped_values (thread_in w k)

  pub settle_values : (thread_in v k).values ≤ 25
  settle_values = rw values_here h.values

  pub settle_place : is_place (thread_in v k).place ≡ true
  settle_place =
      rw (ap (λ (x : ThreadWords). x.place) here ∙ popped_place (thread_in w k)) h.place

  pub settle_room : RoomFor c (thread_in v k).items (thread_in v k).values
  settle_room = rw (items_here, values_here) h.room

  pub settled : (u : List ℕ) → u ≡ put_thread v k (changed c (thread_in v k))
      → u ≡ settled_in w k (changed c (popped (thread_in w k)))
  unfolding settled_in
  settled u q =
      put_then w k h.all h.thread v u (popped (thread_in w k)) (changed c) wide
      (changed_wide c (popped (thread_in w k)) wide) e q

-- ---- a scheduler's lists: the block of them is one of 8
pub list_block : (q : ℕ) → is_scheduler q ≡ true → (2 ≤ q) × (q - 2 < 8)
list_block q e = let (low, high) = test_bounds 2 q e in (low, omega arith)

module _ (w : List ℕ) (c : ℕ) (x : Option Place) (e : x ≡ place_read (is_scheduler c) c) where
  pub left_none : x ≡ None → w ≡ left_in w c
  unfolding left_in
  left_none h = no _ (read_none (is_scheduler c) c (sym e ∙ h)) refl

  module _ (q : Place) (h : x ≡ Some q) where
    there : (is_scheduler c ≡ true) × (q.number ≡ c)
    there = read_at (is_scheduler c) c q (sym e ∙ h)

    pub chosen_scheduler : is_scheduler q.number ≡ true
    chosen_scheduler = ap is_scheduler there.1 ∙ there.0

    pub left_list : (v : List ℕ) → v ≡ without_first w (q.number - home) → v ≡ left_in w c
    unfolding left_in
    left_list v f = yes _ there.0 (f ∙ ap (λ (n : ℕ). without_first w (n - home)) there.1)

pub ruleset left_laws = (left_none, left_list)

-- a block written after the first word leaves the first word
pub first_word : (w : List ℕ) (at : ℕ) (s : List ℕ) (n : ℕ) → 1 ≤ length w → 1 ≤ at
    → get_or (pasted w at s n) 0 0 ≡ get_or w 0 0
unfolding pasted
first_word [] at s n h g = absurd (omega arith)
first_word (x ∷ w) zero s n h g = absurd (omega arith)
first_word (x ∷ w) (suc at) s n h g = refl

-- how many threads there are stays
pub left_count : (w : List ℕ) (c : ℕ) → length w ≡ 4834 → get_or (left_in w c) 0 0 ≡ get_or w 0 0
unfolding left_in without_first
left_count w c h =
    if_all Kept (is_scheduler c) _ w
    (λ _. if_all Kept (eqb n 0) w _ (λ _. refl)
    (λ _. if_all Kept (ltb 64 n) w _ (λ _. refl)
    (λ _. get_or-set_other (pasted w (at + 1) rest n) at 0 (n - 1) 0 (λ e. omega arith)
    ∙ first_word w (at + 1) rest n (omega arith) (omega arith))))
    (λ _. refl)
  where
    Kept : List ℕ → Type 0
    Kept v = get_or v 0 0 ≡ get_or w 0 0

    at : ℕ
    at = 2 + 130 * (c - 2)

    n : ℕ
    n = get_or w at 0

    rest : List ℕ
    rest = shifted (part w (at + 1) n)

module _ (w : List ℕ) (q n : ℕ) where
  pub joined : (v : List ℕ) → is_scheduler q ≡ true → v ≡ with_last w (q - home) n
      → v ≡ joined_in w q n
  unfolding joined_in
  joined v e f = yes _ e f

  -- where there is room, there is a list
  pub room_scheduler : (r : Bool) → r ≡ room_in w q n → not r ≡ false → is_scheduler q ≡ true
  unfolding room_in
  room_scheduler r e h =
      let fits = leb (get_or w (67 + 130 * (q - home)) 0 + n) 64 in
      (and_true (is_scheduler q) fits (sym e ∙ not-false r h)).0
