-- The range test split into blocks, as the passes over the words go: of a list, a scheduler, a
-- thread, and the whole. Assumes nothing.
use Prim.Native.Nat.{ℕ, suc, ◌+◌, ◌*◌, ◌-◌, ◌<◌, ◌≤◌}
use mathlib.Core.Path.{◌≡◌, refl, sym, ap, ap₂, ◌∙◌}
use mathlib.Core.List.{List}
use mathlib.Core.Bool.{Bool, true, false, ◌&&◌}
use native.Mathlib.Omega.{arith}
use native.Mathlib.Numerals.{add-one}
use lib.ListN.{get_or, length}
use lib.Dec.{ltb, leb, eqb}
use borrow.Author.Tests.{lt-ltb, le-ltb, lt-leb, le-leb, leb-true, leb-false, ltb-true, ltb-false, eq-eqb, eqb-true}
use Rattle.basics.proofs.Ifs.{if_all, if_yes, if_no, yes, no, and_true, and_both}
use Rattle.language.specs.Places.{has_place}
use Rattle.language.specs.declared.frame.Frame.{Frame}
use Rattle.program.specs.Trees.{frame_at}
use Rattle.machine.specs.Inner.Ranges.{thread_in_range, value_in_range, item_in_range, entry_in_range}
use Rattle.machine.specs.Inner.Ranges.{cell_in_range, list_in_range, scheduler_in_range}
use Rattle.machine.specs.Inner.Ranges.{thread_word_in_range, all_below, in_range}
use Rattle.machine.proofs.Ranges.{below_each, all_below_lem, InRange, in_range_lem, range_in, Space}
use Rattle.machine.proofs.Ranges.{space_of, of_space, range_place, range_starter, range_lives}
use Rattle.machine.proofs.Ranges.{range_items, range_variables, range_active, range_next}
use Rattle.std.specs.Prelude.{take, drop}
use Rattle.std.specs.List.{list_all}
use Rattle.ranges.proofs.RangeLaws.{list_all-part}
use Rattle.ranges.specs.Inner.Passes.{is_zero, is_list, list_members, word_passes, scheduler_block, thread_block}
use Rattle.ranges.specs.Inner.Passes.{event_in_range, event_passes, cells_pass}
use Rattle.machine.proofs.AllBelow.{cannot, same_test}
use Rattle.machine.proofs.BlockParts.{scheduler_parts, thread_parts}

-- ---- words that pass
pub pass_at : (test : ℕ → Bool) (w : List ℕ) (i n : ℕ) → all_below n (word_passes test w i) ≡ true
    → (j : ℕ) → j < n → test (get_or w (i + j) 0) ≡ true
unfolding word_passes
pass_at test w i n h j g = below_each n (word_passes test w i) h j g

pub at_pass : (test : ℕ → Bool) (w : List ℕ) (i n : ℕ)
    → ((j : ℕ) → j < n → test (get_or w (i + j) 0) ≡ true) → all_below n (word_passes test w i) ≡ true
unfolding word_passes
at_pass test w i n h = all_below_lem n (word_passes test w i) h

pub zero_at : (w : List ℕ) (i n : ℕ) → all_below n (word_passes is_zero w i) ≡ true → (j : ℕ) → j < n
    → get_or w (i + j) 0 ≡ 0
unfolding is_zero
zero_at w i n h j g = eqb-true (get_or w (i + j) 0) 0 (pass_at is_zero w i n h j g)

pub at_zero : (w : List ℕ) (i n : ℕ) → ((j : ℕ) → j < n → get_or w (i + j) 0 ≡ 0)
    → all_below n (word_passes is_zero w i) ≡ true
unfolding is_zero
at_zero w i n h = at_pass is_zero w i n (λ j g. eq-eqb (get_or w (i + j) 0) 0 (h j g))

-- ---- a list
module _ (test : ℕ → Bool) (most : ℕ) (w : List ℕ) (i : ℕ) where
  listed : all_below (most + 1) (list_in_range test most w i) ≡ true → Space test w i most
  listed h = space_of test w i most (λ j g. below_each (most + 1) (list_in_range test most w i) h j (rw (add-one most) g))

  list_over : most < get_or w i 0 → false ≡ all_below (most + 1) (list_in_range test most w i)
  list_over h = cannot _ (λ e. let r = (listed e).room in omega arith)

  -- its members pass, and the rest is 0
  list_split : get_or w i 0 ≤ most
      → all_below (most + 1) (list_in_range test most w i)
      ≡ (all_below (get_or w i 0) (word_passes test w (i + 1))
      && all_below (most - get_or w i 0) (word_passes is_zero w (i + 1 + get_or w i 0)))
  list_split l = same_test _ _ there back
    where
      n : ℕ
      n = get_or w i 0

      next : (j : ℕ) → i + suc j ≡ i + 1 + j
      next j = omega arith

      over : (j : ℕ) → get_or w i 0 ≤ j → i + suc j ≡ i + 1 + get_or w i 0 + (j - get_or w i 0)
      over j g = omega arith

      under : (j : ℕ) → i + 1 + get_or w i 0 + j ≡ i + suc (get_or w i 0 + j)
      under j = omega arith

      split : (all_below n (word_passes test w (i + 1)) && all_below (most - n) (word_passes is_zero w (i + 1 + n))) ≡ true
          → (all_below n (word_passes test w (i + 1)) ≡ true) × (all_below (most - n) (word_passes is_zero w (i + 1 + n)) ≡ true)
      split q = and_true (all_below n (word_passes test w (i + 1))) (all_below (most - n) (word_passes is_zero w (i + 1 + n))) q

      there : all_below (most + 1) (list_in_range test most w i) ≡ true
          → (all_below n (word_passes test w (i + 1)) && all_below (most - n) (word_passes is_zero w (i + 1 + n))) ≡ true
      there q = and_both _ _
          (at_pass test w (i + 1) n (λ j g. ap (λ (k : ℕ). test (get_or w k 0)) (sym (next j)) ∙ (listed q).used j g))
          (at_zero w (i + 1 + n) (most - n) (λ j g. ap (λ (k : ℕ). get_or w k 0) (under j) ∙ (listed q).unused (get_or w i 0 + j) (omega arith) (omega arith)))

      back : (all_below n (word_passes test w (i + 1)) && all_below (most - n) (word_passes is_zero w (i + 1 + n))) ≡ true
          → all_below (most + 1) (list_in_range test most w i) ≡ true
      back q = all_below_lem (most + 1) (list_in_range test most w i) (λ j g. of_space test w i most space j (rw (add-one most) at g))
        where
          space : Space test w i most
          space = record {
            room = l;
            used = λ j g. ap (λ (k : ℕ). test (get_or w k 0)) (next j) ∙ pass_at test w (i + 1) n (split q).0 j g;
            unused = λ j a b. ap (λ (k : ℕ). get_or w k 0) (over j a) ∙ zero_at w (i + 1 + n) (most - n) (split q).1 (j - n) (omega arith);
          }

and_swap : (a b : Bool) → (a && b) ≡ (b && a)
and_swap true true = refl
and_swap true false = refl
and_swap false true = refl
and_swap false false = refl

and_assoc : (a b c : Bool) → (a && (b && c)) ≡ (a && b && c)
and_assoc true b c = refl
and_assoc false b c = refl

module _ (most : ℕ) (w : List ℕ) (i : ℕ) where
  abbrev n : ℕ
  n = get_or w i 0

  -- what `is_list` answers
  is_no_list : most < get_or w i 0 → false ≡ is_list most w i
  unfolding is_list
  is_no_list h =
      sym (ap (λ (b : Bool). b && list_all is_zero (take (most - n) (drop (i + 1 + n) w))) (lt-leb n most h))

  pub is_list_none : most < get_or w i 0 → leb (get_or w i 0) most ≡ is_list most w i
  is_list_none h = lt-leb n most h ∙ is_no_list h

  pub is_list_there : (m : ℕ) → get_or w i 0 ≤ most → m ≡ most - get_or w i 0
      → list_all is_zero (take m (drop (i + 1 + get_or w i 0) w)) ≡ is_list most w i
  unfolding is_list
  is_list_there m h e =
      ap (λ (k : ℕ). list_all is_zero (take k (drop (i + 1 + n) w))) e
      ∙ sym (ap (λ (b : Bool). b && list_all is_zero (take (most - n) (drop (i + 1 + n) w))) (le-leb n most h))

  pub list_room : is_list most w i ≡ true → get_or w i 0 ≤ most
  unfolding is_list
  list_room h = leb-true n most (and_true (leb n most) _ h).0

  -- a list in range
  list_is : (test : ℕ → Bool) → i + most < length w
      → all_below (most + 1) (list_in_range test most w i) ≡ (is_list most w i && list_all test (list_members w i))
  list_is test h = by (leb n most) refl
    where
      by : (b : Bool) → leb n most ≡ b
          → all_below (most + 1) (list_in_range test most w i) ≡ (is_list most w i && list_all test (list_members w i))
      by true e =
          let l = leb-true n most e in
          list_split test most w i l
          ∙ and_swap (all_below n (word_passes test w (i + 1))) (all_below (most - n) (word_passes is_zero w (i + 1 + n)))
          ∙ ap₂ (λ (a b : Bool). a && b)
          (sym (list_all-part is_zero w (i + 1 + n) (most - n) (most - n) refl (omega arith)) ∙ is_list_there (most - n) l refl)
          (sym (list_all-part test w (i + 1) n n refl (omega arith)))
      by false e =
          let l : most < n = leb-false n most e in
          sym (list_over test most w i l)
          ∙ ap (λ (b : Bool). b && list_all test (list_members w i)) (is_no_list l)

-- ---- a scheduler
module _ (m : ℕ) (w : List ℕ) (i : ℕ) where
  -- its active list, and its next list
  scheduler_lists : all_below 130 (scheduler_in_range m w i)
      ≡ (all_below 65 (list_in_range thread_in_range 64 w i)
      && all_below 65 (list_in_range (entry_in_range m) 64 w (i + 65)))
  scheduler_lists = same_test _ _
      (λ q. and_both _ _
      (all_below_lem 65 (list_in_range thread_in_range 64 w i)
      (λ j g. sym (range_active m w i j g)
      ∙ below_each 130 (scheduler_in_range m w i) q j (omega arith)))
      (all_below_lem 65 (list_in_range (entry_in_range m) 64 w (i + 65))
      (λ j h. sym (range_next m w i j h)
      ∙ below_each 130 (scheduler_in_range m w i) q (65 + j) (omega arith))))
      (λ q. all_below_lem 130 (scheduler_in_range m w i)
      (scheduler_parts (λ j. scheduler_in_range m w i j ≡ true)
      (λ j l. range_active m w i j l
      ∙ below_each 65 (list_in_range thread_in_range 64 w i) (and_true _ _ q).0 j l)
      (λ j l. range_next m w i j l
      ∙ below_each 65 (list_in_range (entry_in_range m) 64 w (i + 65)) (and_true _ _ q).1 j l)))

  -- as the code tests them
  pub scheduler_split : i + 130 ≤ length w → all_below 130 (scheduler_in_range m w i)
      ≡ (is_list 64 w i && list_all thread_in_range (list_members w i)
      && is_list 64 w (i + 65) && list_all (entry_in_range m) (list_members w (i + 65)))
  scheduler_split h =
      scheduler_lists
      ∙ ap₂ (λ (a b : Bool). a && b)
      (list_is 64 w i thread_in_range (omega arith))
      (list_is 64 w (i + 65) (entry_in_range m) (omega arith))
      ∙ and_assoc (is_list 64 w i && list_all thread_in_range (list_members w i)) (is_list 64 w (i + 65))
      (list_all (entry_in_range m) (list_members w (i + 65)))

pub scheduler_there : (m n k : ℕ) (w : List ℕ) (r : Bool) → k < n
    → r ≡ all_below 130 (scheduler_in_range m w (2 + 130 * k))
    → r ≡ scheduler_block m n w k
unfolding scheduler_block
scheduler_there m n k w r h e = yes _ (lt-ltb k n h) e

pub scheduler_none : (m n k i : ℕ) (w : List ℕ) (r : Bool) → n ≤ k → i ≡ 130
    → 2 + 130 * k + 130 ≤ length w
    → r ≡ list_all is_zero (take i (drop (2 + 130 * k) w)) → r ≡ scheduler_block m n w k
unfolding scheduler_block
scheduler_none m n k i w r h z l e =
    no _ (le-ltb k n h) (e ∙ list_all-part is_zero w (2 + 130 * k) 130 i z l)

pub ruleset scheduler_block_laws = (scheduler_there, scheduler_none)

-- ---- a thread
module _ (fs : List Frame) (n : ℕ) (w : List ℕ) (i : ℕ) where
  word_in : all_below 55 (thread_word_in_range fs n w i) ≡ true → (j : ℕ) → j < 55
      → thread_word_in_range fs n w i j ≡ true
  word_in q = below_each 55 (thread_word_in_range fs n w i) q

  -- its place, its starter, whether it lives, its continuation, its variables
  thread_lists : all_below 55 (thread_word_in_range fs n w i)
      ≡ (has_place n (get_or w i 0) && leb (get_or w (i + 1) 0) 64 && leb (get_or w (i + 2) 0) 1
      && all_below 26 (list_in_range (item_in_range fs n) 25 w (i + 3))
      && all_below 26 (list_in_range value_in_range 25 w (i + 29)))
  thread_lists = same_test _ _
      (λ q. and_both _ _ (and_both _ _ (and_both _ _ (and_both _ _
      (sym (range_place fs n w i) ∙ word_in q 0 (omega arith))
      (sym (range_starter fs n w i) ∙ word_in q 1 (omega arith)))
      (sym (range_lives fs n w i) ∙ word_in q 2 (omega arith)))
      (all_below_lem 26 (list_in_range (item_in_range fs n) 25 w (i + 3)) (λ j g. sym (range_items fs n w i j g) ∙ word_in q (3 + j) (omega arith))))
      (all_below_lem 26 (list_in_range value_in_range 25 w (i + 29)) (λ j h. sym (range_variables fs n w i j h) ∙ word_in q (29 + j) (omega arith))))
      (λ q. let e = and_true _ (all_below 26 (list_in_range value_in_range 25 w (i + 29))) q in
      let d = and_true _ (all_below 26 (list_in_range (item_in_range fs n) 25 w (i + 3))) e.0 in
      let b = and_true _ (leb (get_or w (i + 2) 0) 1) d.0 in
      let a = and_true (has_place n (get_or w i 0)) (leb (get_or w (i + 1) 0) 64) b.0 in
      all_below_lem 55 (thread_word_in_range fs n w i) (thread_parts (λ j. thread_word_in_range fs n w i j ≡ true)
      (range_place fs n w i ∙ a.0) (range_starter fs n w i ∙ a.1) (range_lives fs n w i ∙ b.1)
      (λ j l. range_items fs n w i j l ∙ below_each 26 (list_in_range (item_in_range fs n) 25 w (i + 3)) d.1 j l)
      (λ j l. range_variables fs n w i j l ∙ below_each 26 (list_in_range value_in_range 25 w (i + 29)) e.1 j l)))

  -- as the code tests them
  pub thread_split : i + 55 ≤ length w → all_below 55 (thread_word_in_range fs n w i)
      ≡ (has_place n (get_or w i 0) && leb (get_or w (i + 1) 0) 64 && leb (get_or w (i + 2) 0) 1
      && is_list 25 w (i + 3) && list_all (item_in_range fs n) (list_members w (i + 3))
      && is_list 25 w (i + 29) && list_all value_in_range (list_members w (i + 29)))
  thread_split h =
      thread_lists
      ∙ ap₂ (λ (a b : Bool). has_place n (get_or w i 0) && leb (get_or w (i + 1) 0) 64 && leb (get_or w (i + 2) 0) 1 && a && b)
      (list_is 25 w (i + 3) (item_in_range fs n) (omega arith))
      (list_is 25 w (i + 29) value_in_range (omega arith))
      ∙ and_assoc (has_place n (get_or w i 0) && leb (get_or w (i + 1) 0) 64 && leb (get_or w (i + 2) 0) 1 && (is_list 25 w (i + 3) && list_all (item_in_range fs n) (list_members w (i + 3))))
      (is_list 25 w (i + 29)) (list_all value_in_range (list_members w (i + 29)))
      ∙ ap (λ (a : Bool). a && is_list 25 w (i + 29) && list_all value_in_range (list_members w (i + 29)))
      (and_assoc (has_place n (get_or w i 0) && leb (get_or w (i + 1) 0) 64 && leb (get_or w (i + 2) 0) 1)
      (is_list 25 w (i + 3)) (list_all (item_in_range fs n) (list_members w (i + 3))))

pub thread_there : (fs : List Frame) (n k : ℕ) (w : List ℕ) (r : Bool) → k < get_or w 0 0
    → r ≡ all_below 55 (thread_word_in_range fs n w (1042 + 55 * k)) → r ≡ thread_block fs n w k
unfolding thread_block
thread_there fs n k w r h e = yes _ (lt-ltb k (get_or w 0 0) h) e

pub thread_none : (fs : List Frame) (n k i : ℕ) (w : List ℕ) (r : Bool) → get_or w 0 0 ≤ k → i ≡ 55
    → 1042 + 55 * k + 55 ≤ length w
    → r ≡ list_all is_zero (take i (drop (1042 + 55 * k) w)) → r ≡ thread_block fs n w k
unfolding thread_block
thread_none fs n k i w r h z l e =
    no _ (le-ltb k (get_or w 0 0) h) (e ∙ list_all-part is_zero w (1042 + 55 * k) 55 i z l)

pub ruleset thread_block_laws = (thread_there, thread_none)

-- ---- the whole
module _ (fs : List Frame) (n : ℕ) (w : List ℕ) where
  scheduler_blocks : InRange fs n w → all_below 8 (scheduler_block (frame_at fs 0).c n w) ≡ true
  unfolding scheduler_block
  scheduler_blocks h = all_below_lem 8 (scheduler_block (frame_at fs 0).c n w) (λ k g. by k g (ltb k n) refl)
    where
      by : (k : ℕ) → k < 8 → (b : Bool) → ltb k n ≡ b → scheduler_block (frame_at fs 0).c n w k ≡ true
      by k g true e =
          if_yes _ _ e
          ∙ all_below_lem 130 (scheduler_in_range (frame_at fs 0).c w (2 + 130 * k))
          (λ j l. h.scheduler k j g l (ltb-true k n e))
      by k g false e =
          if_no _ _ e
          ∙ at_zero w (2 + 130 * k) 130 (λ j l. h.no_scheduler k j g l (ltb-false k n e))

  thread_blocks : InRange fs n w → all_below 64 (thread_block fs n w) ≡ true
  unfolding thread_block
  thread_blocks h = all_below_lem 64 (thread_block fs n w) (λ k g. by k g (ltb k (get_or w 0 0)) refl)
    where
      by : (k : ℕ) → k < 64 → (b : Bool) → ltb k (get_or w 0 0) ≡ b → thread_block fs n w k ≡ true
      by k g true e =
          if_yes _ _ e
          ∙ all_below_lem 55 (thread_word_in_range fs n w (1042 + 55 * k))
          (λ j l. h.thread k j l (ltb-true k (get_or w 0 0) e))
      by k g false e =
          if_no _ _ e
          ∙ at_zero w (1042 + 55 * k) 55 (λ j l. h.no_thread k j g l (ltb-false k (get_or w 0 0) e))

  event_words : InRange fs n w → all_below 16 (event_passes (frame_at fs 0).c w) ≡ true
  unfolding event_passes event_in_range
  event_words h =
      all_below_lem 16 (event_passes (frame_at fs 0).c w)
      (λ e g. if_all (λ (b : Bool). b ≡ true) (ltb e (frame_at fs 0).c) _ _
      (λ q. le-leb _ 1 (h.event e g (ltb-true e (frame_at fs 0).c q)))
      (λ q. eq-eqb _ 0 (h.no_event e g (ltb-false e (frame_at fs 0).c q))))

  lengthy_split : in_range fs n w
      ≡ (eqb (length w) 4834 && leb (get_or w 0 0) 64 && leb (get_or w 1 0) 256
      && all_below 8 (scheduler_block (frame_at fs 0).c n w) && all_below 64 (thread_block fs n w)
      && all_below 16 (event_passes (frame_at fs 0).c w) && cells_pass n w)
  unfolding scheduler_block thread_block event_passes event_in_range
  lengthy_split = same_test _ _
      (λ q. let r = in_range_lem fs n w q in
      and_both _ _ (and_both _ _ (and_both _ _ (and_both _ _ (and_both _ _ (and_both _ _
      (eq-eqb (length w) 4834 r.all)
      (le-leb _ 64 r.threads_room))
      (le-leb _ 256 r.cells_room))
      (scheduler_blocks r))
      (thread_blocks r))
      (event_words r))
      (and_both _ _ (at_pass (cell_in_range n) w 4578 (get_or w 1 0) r.cell)
      (at_zero w (4578 + get_or w 1 0) (256 - get_or w 1 0)
      (λ j g. let z : 4578 + get_or w 1 0 + j ≡ 4578 + (get_or w 1 0 + j) = omega arith in
      ap (λ (k : ℕ). get_or w k 0) z
      ∙ r.no_cell (get_or w 1 0 + j) (omega arith) (omega arith)))))
      (λ q. let g = and_true _ (cells_pass n w) q in
      let z = and_true (all_below (get_or w 1 0) (word_passes (cell_in_range n) w 4578)) _ g.1 in
      let f = and_true _ (all_below 16 (event_passes (frame_at fs 0).c w)) g.0 in
      let e = and_true _ (all_below 64 (thread_block fs n w)) f.0 in
      let d = and_true _ (all_below 8 (scheduler_block (frame_at fs 0).c n w)) e.0 in
      let b = and_true _ (leb (get_or w 1 0) 256) d.0 in
      let a = and_true (eqb (length w) 4834) (leb (get_or w 0 0) 64) b.0 in
      there (eqb-true _ _ a.0) (leb-true _ _ a.1) (leb-true _ _ b.1)
      (below_each 8 (scheduler_block (frame_at fs 0).c n w) d.1) (below_each 64 (thread_block fs n w) e.1)
      (below_each 16 (event_passes (frame_at fs 0).c w) f.1) z.0 z.1)
    where
      there : length w ≡ 4834 → get_or w 0 0 ≤ 64 → get_or w 1 0 ≤ 256
          → ((k : ℕ) → k < 8 → scheduler_block (frame_at fs 0).c n w k ≡ true)
          → ((k : ℕ) → k < 64 → thread_block fs n w k ≡ true)
          → ((k : ℕ) → k < 16 → event_passes (frame_at fs 0).c w k ≡ true)
          → all_below (get_or w 1 0) (word_passes (cell_in_range n) w 4578) ≡ true
          → all_below (256 - get_or w 1 0) (word_passes is_zero w (4578 + get_or w 1 0)) ≡ true
          → in_range fs n w ≡ true
      there a b c schedulers threads events v q = range_in fs n w (record {
        all = a;
        threads_room = b;
        cells_room = c;
        scheduler = λ k j f g h. below_each 130
            (scheduler_in_range (frame_at fs 0).c w (2 + 130 * k))
            (sym (if_yes _ _ (lt-ltb k n h)) ∙ schedulers k f) j g;
        no_scheduler = λ k j f g h. zero_at w (2 + 130 * k) 130 (sym (if_no _ _ (le-ltb k n h)) ∙ schedulers k f) j g;
        thread = λ k j g h. below_each 55 (thread_word_in_range fs n w (1042 + 55 * k)) (sym (if_yes _ _ (lt-ltb k (get_or w 0 0) h)) ∙ threads k (omega arith)) j g;
        no_thread = λ k j f g h. zero_at w (1042 + 55 * k) 55 (sym (if_no _ _ (le-ltb k (get_or w 0 0) h)) ∙ threads k f) j g;
        event = λ k f h. leb-true _ 1
            (sym (if_yes _ _ (lt-ltb k (frame_at fs 0).c h)) ∙ events k f);
        no_event = λ k f h. eqb-true _ 0
            (sym (if_no _ _ (le-ltb k (frame_at fs 0).c h)) ∙ events k f);
        cell = λ k h. pass_at (cell_in_range n) w 4578 (get_or w 1 0) v k h;
        no_cell = λ k f h. let z : 4578 + k ≡ 4578 + get_or w 1 0 + (k - get_or w 1 0) = omega arith in
            ap (λ (m : ℕ). get_or w m 0) z
            ∙ zero_at w (4578 + get_or w 1 0) (256 - get_or w 1 0) q (k - get_or w 1 0) (omega arith);
      })

  pub whole_split : length w ≡ 4834 → in_range fs n w
      ≡ (leb (get_or w 0 0) 64 && leb (get_or w 1 0) 256
      && all_below 8 (scheduler_block (frame_at fs 0).c n w) && all_below 64 (thread_block fs n w)
      && all_below 16 (event_passes (frame_at fs 0).c w) && cells_pass n w)
  whole_split l =
      lengthy_split
      ∙ ap (λ (b : Bool). b && leb (get_or w 0 0) 64 && leb (get_or w 1 0) 256
      && all_below 8 (scheduler_block (frame_at fs 0).c n w) && all_below 64 (thread_block fs n w)
      && all_below 16 (event_passes (frame_at fs 0).c w) && cells_pass n w) (eq-eqb (length w) 4834 l)

  pub wrong_length : (length w ≡ 4834 → ⊥) → false ≡ in_range fs n w
  wrong_length h = cannot _ (λ e. h (in_range_lem fs n w e).all)

-- ---- the cells: a of them, then b words of unused space from e on
module _ (n a b e : ℕ) (w : List ℕ) (l : length w ≡ 4834) (h : get_or w 1 0 ≤ 256) where
  abbrev cells : Bool
  cells = list_all (cell_in_range n) (take a (drop 4578 w))

  abbrev rest : Bool
  rest = list_all is_zero (take b (drop e w))

  module _ (ea : a ≡ get_or w 1 0) (eb : b ≡ 256 - get_or w 1 0) (ee : e ≡ 4578 + get_or w 1 0) where
    cells_split : (cells && rest) ≡ cells_pass n w
    cells_split =
        ap₂ (λ (x y : Bool). x && y)
        (list_all-part (cell_in_range n) w 4578 (get_or w 1 0) a ea (omega arith))
        (ap (λ (k : ℕ). list_all is_zero (take b (drop k w))) ee
        ∙ list_all-part is_zero w (4578 + get_or w 1 0) (256 - get_or w 1 0) b eb (omega arith))

    pub cells_there : (r z : Bool) → r ≡ cells → r ≡ true → z ≡ rest → z ≡ cells_pass n w
    cells_there r z p q s = s ∙ ap (λ (x : Bool). x && rest) (sym q ∙ p) ∙ cells_split

    pub cells_wrong : (r : Bool) → r ≡ cells → r ≡ false → r ≡ cells_pass n w
    cells_wrong r p q = q ∙ ap (λ (x : Bool). x && rest) (sym q ∙ p) ∙ cells_split
