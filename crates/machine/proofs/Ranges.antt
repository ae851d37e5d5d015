-- What the test `in_range` says of the words, region by region (`InRange`), and that this is enough
-- for it to pass. Assumes nothing.
use Prim.Native.Nat.{ℕ, suc, zero, ◌+◌, ◌*◌, ◌-◌, ◌/◌, ◌%◌, ◌<◌, ◌≤◌}
use mathlib.Core.Path.{◌≡◌, refl, sym, ap, ap₂, ◌∙◌}
use mathlib.Core.List.{List}
use mathlib.Core.Bool.{Bool, true, false}
use native.Mathlib.Omega.{arith}
use native.Mathlib.Decide.{dec_lt, ℕ_discrete}
use lib.ListN.{get_or, length}
use lib.Dec.{ltb, leb, eqb}
use borrow.Author.Tests.{ltb-true, ltb-false, lt-ltb, le-ltb, eq-eqb, ne_eqb, eqb-true, leb-true}
use borrow.Author.Tests.{le-leb}
use Rattle.basics.specs.If.{when◌then◌else◌}
use Rattle.basics.proofs.Ifs.{if_all, if_yes, if_no, and_true, and_both}
use Rattle.language.specs.Places.{has_place}
use Rattle.language.specs.declared.frame.Frame.{Frame}
use Rattle.program.specs.Trees.{frame_at}
use Rattle.machine.specs.Inner.Ranges.{thread_in_range, value_in_range, item_in_range, entry_in_range}
use Rattle.machine.specs.Inner.Ranges.{cell_in_range, list_in_range, scheduler_in_range}
use Rattle.machine.specs.Inner.Ranges.{thread_word_in_range, word_in_range, all_below, in_range}
use Rattle.machine.proofs.Regions.{by_region}

-- ---- a test at every number below n: what it says of each of them, and from each of them

pub below_each : (n : ℕ) (test : ℕ → Bool) → all_below n test ≡ true → (i : ℕ) → i < n
    → test i ≡ true
unfolding all_below
below_each zero test e i h = absurd (omega arith)
below_each (suc n) test e i h =
    go (ℕ_discrete i n) (λ k g. below_each n test (and_true (test n) (all_below n test) e).1 k g)
  where
    go : Dec (i ≡ n) → ((k : ℕ) → k < n → test k ≡ true) → test i ≡ true
    go (yes q) f = ap test q ∙ (and_true (test n) (all_below n test) e).0
    go (no q) f = f i (omega arith)

pub all_below_lem : (n : ℕ) (test : ℕ → Bool) → ((i : ℕ) → i < n → test i ≡ true)
    → all_below n test ≡ true
unfolding all_below
all_below_lem zero test h = refl
all_below_lem (suc n) test h = and_both (test n) (all_below n test) (h n (omega arith)) (all_below_lem n test (λ i g. h i (omega arith)))

-- ---- the range of each word, by regions
module _ (fs : List Frame) (n : ℕ) (w : List ℕ) where
  range_0 : word_in_range fs n w 0 ≡ leb (get_or w 0 0) 64
  unfolding word_in_range
  range_0 = if_yes _ _ (eq-eqb 0 0 refl)

  range_1 : word_in_range fs n w 1 ≡ leb (get_or w 1 0) 256
  unfolding word_in_range
  range_1 = if_no _ _ (ne_eqb 1 0 (λ e. omega arith)) ∙ if_yes _ _ (eq-eqb 1 1 refl)

  range_scheduler : (k j : ℕ) → k < 8 → j < 130 → k < n
      → word_in_range fs n w (2 + 130 * k + j) ≡ scheduler_in_range (frame_at fs 0).c w (2 + 130 * k) j
  unfolding word_in_range
  range_scheduler k j h g l =
      let i : ℕ = 2 + 130 * k + j in
      let a : (i - 2) / 130 ≡ k = omega arith in
      let b : (i - 2) % 130 ≡ j = omega arith in
      if_no _ _ (ne_eqb i 0 (λ e. omega arith)) ∙ if_no _ _ (ne_eqb i 1 (λ e. omega arith))
      ∙ if_yes _ _ (lt-ltb i 1042 (omega arith))
      ∙ if_yes _ _ (lt-ltb ((i - 2) / 130) n (omega arith))
      ∙ ap₂ (λ (x y : ℕ). scheduler_in_range (frame_at fs 0).c w (2 + 130 * x) y) a b

  range_no_scheduler : (k j : ℕ) → k < 8 → j < 130 → n ≤ k
      → word_in_range fs n w (2 + 130 * k + j) ≡ eqb (get_or w (2 + 130 * k + j) 0) 0
  unfolding word_in_range
  range_no_scheduler k j h g l =
      let i : ℕ = 2 + 130 * k + j in
      let a : (i - 2) / 130 ≡ k = omega arith in
      if_no _ _ (ne_eqb i 0 (λ e. omega arith)) ∙ if_no _ _ (ne_eqb i 1 (λ e. omega arith))
      ∙ if_yes _ _ (lt-ltb i 1042 (omega arith))
      ∙ if_no _ _ (le-ltb ((i - 2) / 130) n (omega arith))

  range_thread : (k j : ℕ) → k < 64 → j < 55 → k < get_or w 0 0
      → word_in_range fs n w (1042 + 55 * k + j) ≡ thread_word_in_range fs n w (1042 + 55 * k) j
  unfolding word_in_range
  range_thread k j h g l =
      let i : ℕ = 1042 + 55 * k + j in
      let a : (i - 1042) / 55 ≡ k = omega arith in
      let b : (i - 1042) % 55 ≡ j = omega arith in
      if_no _ _ (ne_eqb i 0 (λ e. omega arith)) ∙ if_no _ _ (ne_eqb i 1 (λ e. omega arith))
      ∙ if_no _ _ (le-ltb i 1042 (omega arith)) ∙ if_yes _ _ (lt-ltb i 4562 (omega arith))
      ∙ if_yes _ _ (lt-ltb ((i - 1042) / 55) (get_or w 0 0) (omega arith))
      ∙ ap₂ (λ (x y : ℕ). thread_word_in_range fs n w (1042 + 55 * x) y) a b

  range_no_thread : (k j : ℕ) → k < 64 → j < 55 → get_or w 0 0 ≤ k
      → word_in_range fs n w (1042 + 55 * k + j) ≡ eqb (get_or w (1042 + 55 * k + j) 0) 0
  unfolding word_in_range
  range_no_thread k j h g l =
      let i : ℕ = 1042 + 55 * k + j in
      let a : (i - 1042) / 55 ≡ k = omega arith in
      if_no _ _ (ne_eqb i 0 (λ e. omega arith)) ∙ if_no _ _ (ne_eqb i 1 (λ e. omega arith))
      ∙ if_no _ _ (le-ltb i 1042 (omega arith)) ∙ if_yes _ _ (lt-ltb i 4562 (omega arith))
      ∙ if_no _ _ (le-ltb ((i - 1042) / 55) (get_or w 0 0) (omega arith))

  range_events : (e : ℕ) → e < 16
      → word_in_range fs n w (4562 + e)
      ≡ (when ltb e (frame_at fs 0).c then leb (get_or w (4562 + e) 0) 1 else eqb (get_or w (4562 + e) 0) 0)
  unfolding word_in_range
  range_events e g =
      let i : ℕ = 4562 + e in
      let a : i - 4562 ≡ e = omega arith in
      if_no _ _ (ne_eqb i 0 (λ z. omega arith)) ∙ if_no _ _ (ne_eqb i 1 (λ z. omega arith))
      ∙ if_no _ _ (le-ltb i 1042 (omega arith)) ∙ if_no _ _ (le-ltb i 4562 (omega arith))
      ∙ if_yes _ _ (lt-ltb i 4578 (omega arith))
      ∙ ap (λ (x : ℕ). when ltb x (frame_at fs 0).c then leb (get_or w (4562 + e) 0) 1 else eqb (get_or w (4562 + e) 0) 0) a

  range_cells : (c : ℕ) → c < 256
      → word_in_range fs n w (4578 + c)
      ≡ (when ltb c (get_or w 1 0) then cell_in_range n (get_or w (4578 + c) 0) else eqb (get_or w (4578 + c) 0) 0)
  unfolding word_in_range
  range_cells c g =
      let i : ℕ = 4578 + c in
      let a : i - 4578 ≡ c = omega arith in
      if_no _ _ (ne_eqb i 0 (λ e. omega arith)) ∙ if_no _ _ (ne_eqb i 1 (λ e. omega arith))
      ∙ if_no _ _ (le-ltb i 1042 (omega arith)) ∙ if_no _ _ (le-ltb i 4562 (omega arith))
      ∙ if_no _ _ (le-ltb i 4578 (omega arith))
      ∙ ap (λ (x : ℕ). when ltb x (get_or w 1 0) then cell_in_range n (get_or w (4578 + c) 0) else eqb (get_or w (4578 + c) 0) 0) a

-- the words are as many as they have to be; each scheduler, thread, event and cell that there is has
-- its words in range; the rest is 0
pub record InRange (fs : List Frame) (n : ℕ) (w : List ℕ) : Type 0 where
  pub all : length w ≡ 4834
  pub threads_room : get_or w 0 0 ≤ 64
  pub cells_room : get_or w 1 0 ≤ 256
  pub scheduler : (k j : ℕ) → k < 8 → j < 130 → k < n
      → scheduler_in_range (frame_at fs 0).c w (2 + 130 * k) j ≡ true
  pub no_scheduler : (k j : ℕ) → k < 8 → j < 130 → n ≤ k → get_or w (2 + 130 * k + j) 0 ≡ 0
  pub thread : (k j : ℕ) → j < 55 → k < get_or w 0 0
      → thread_word_in_range fs n w (1042 + 55 * k) j ≡ true
  pub no_thread : (k j : ℕ) → k < 64 → j < 55 → get_or w 0 0 ≤ k → get_or w (1042 + 55 * k + j) 0 ≡ 0
  pub event : (e : ℕ) → e < 16 → e < (frame_at fs 0).c → get_or w (4562 + e) 0 ≤ 1
  pub no_event : (e : ℕ) → e < 16 → (frame_at fs 0).c ≤ e → get_or w (4562 + e) 0 ≡ 0
  pub cell : (c : ℕ) → c < get_or w 1 0 → cell_in_range n (get_or w (4578 + c) 0) ≡ true
  pub no_cell : (c : ℕ) → c < 256 → get_or w 1 0 ≤ c → get_or w (4578 + c) 0 ≡ 0

module _ (fs : List Frame) (n : ℕ) (w : List ℕ) where
  pub in_range_lem : in_range fs n w ≡ true → InRange fs n w
  unfolding in_range
  in_range_lem e =
      record {
        all = eqb-true (length w) 4834 p.0;
        threads_room = most;
        cells_room = more;
        scheduler = λ k j a b c. sym (range_scheduler fs n w k j a b c) ∙ each (2 + 130 * k + j) (omega arith);
        no_scheduler = λ k j a b c. eqb-true (get_or w (2 + 130 * k + j) 0) 0 (sym (range_no_scheduler fs n w k j a b c) ∙ each (2 + 130 * k + j) (omega arith));
        thread = λ k j b c. let f = most in sym (range_thread fs n w k j (omega arith) b c) ∙ each (1042 + 55 * k + j) (omega arith);
        no_thread = λ k j a b c. eqb-true (get_or w (1042 + 55 * k + j) 0) 0 (sym (range_no_thread fs n w k j a b c) ∙ each (1042 + 55 * k + j) (omega arith));
        event = λ e a l. leb-true (get_or w (4562 + e) 0) 1 (sym (if_yes _ _ (lt-ltb e (frame_at fs 0).c l)) ∙ sym (range_events fs n w e a) ∙ each (4562 + e) (omega arith));
        no_event = λ e a l. eqb-true (get_or w (4562 + e) 0) 0 (sym (if_no _ _ (le-ltb e (frame_at fs 0).c l)) ∙ sym (range_events fs n w e a) ∙ each (4562 + e) (omega arith));
        cell = λ c l. let f = more in sym (if_yes _ _ (lt-ltb c (get_or w 1 0) l)) ∙ sym (range_cells fs n w c (omega arith)) ∙ each (4578 + c) (omega arith);
        no_cell = λ c a l. eqb-true (get_or w (4578 + c) 0) 0 (sym (if_no _ _ (le-ltb c (get_or w 1 0) l)) ∙ sym (range_cells fs n w c a) ∙ each (4578 + c) (omega arith));
      }
    where
      p : (eqb (length w) 4834 ≡ true) × (all_below 4834 (word_in_range fs n w) ≡ true)
      p = and_true (eqb (length w) 4834) (all_below 4834 (word_in_range fs n w)) e

      each : (i : ℕ) → i < 4834 → word_in_range fs n w i ≡ true
      each = below_each 4834 (word_in_range fs n w) p.1

      most : get_or w 0 0 ≤ 64
      most = leb-true (get_or w 0 0) 64 (sym (range_0 fs n w) ∙ each 0 (omega arith))

      more : get_or w 1 0 ≤ 256
      more = leb-true (get_or w 1 0) 256 (sym (range_1 fs n w) ∙ each 1 (omega arith))

  pub range_in : InRange fs n w → in_range fs n w ≡ true
  unfolding in_range
  range_in h =
      and_both (eqb (length w) 4834) (all_below 4834 (word_in_range fs n w))
      (eq-eqb (length w) 4834 h.all)
      (all_below_lem 4834 (word_in_range fs n w)
      (by_region (λ (i : ℕ). word_in_range fs n w i ≡ true) (range_0 fs n w ∙ le-leb (get_or w 0 0) 64 h.threads_room) (range_1 fs n w ∙ le-leb (get_or w 1 0) 256 h.cells_room)
      (λ k j a b. scheduler k j a b (dec_lt k n)) (λ k j a b. thread k j a b (dec_lt k (get_or w 0 0))) (λ e a. range_events fs n w e a ∙ event e a) (λ c a. range_cells fs n w c a ∙ cell c a)))
    where
      scheduler : (k j : ℕ) → k < 8 → j < 130 → Dec (k < n)
          → word_in_range fs n w (2 + 130 * k + j) ≡ true
      scheduler k j a b (yes l) = range_scheduler fs n w k j a b l ∙ h.scheduler k j a b l
      scheduler k j a b (no m) =
          let l : n ≤ k = omega (arith, m) in
          range_no_scheduler fs n w k j a b l ∙ eq-eqb _ 0 (h.no_scheduler k j a b l)

      thread : (k j : ℕ) → k < 64 → j < 55 → Dec (k < get_or w 0 0)
          → word_in_range fs n w (1042 + 55 * k + j) ≡ true
      thread k j a b (yes l) = range_thread fs n w k j a b l ∙ h.thread k j b l
      thread k j a b (no m) =
          let l : get_or w 0 0 ≤ k = omega (arith, m) in
          range_no_thread fs n w k j a b l ∙ eq-eqb _ 0 (h.no_thread k j a b l)

      event : (e : ℕ) → e < 16
          → (when ltb e (frame_at fs 0).c then leb (get_or w (4562 + e) 0) 1 else eqb (get_or w (4562 + e) 0) 0)
          ≡ true
      event e a =
          if_all (λ (b : Bool). b ≡ true) (ltb e (frame_at fs 0).c) _ _
          (λ q. le-leb _ 1 (h.event e a (ltb-true e (frame_at fs 0).c q)))
          (λ q. eq-eqb _ 0 (h.no_event e a (ltb-false e (frame_at fs 0).c q)))

      cell : (c : ℕ) → c < 256
          → (when ltb c (get_or w 1 0) then cell_in_range n (get_or w (4578 + c) 0) else eqb (get_or w (4578 + c) 0) 0)
          ≡ true
      cell c a =
          if_all (λ (b : Bool). b ≡ true) (ltb c (get_or w 1 0)) _ _
          (λ e. h.cell c (ltb-true c (get_or w 1 0) e))
          (λ e. eq-eqb _ 0 (h.no_cell c a (ltb-false c (get_or w 1 0) e)))

-- ---- the words of a thread, of a scheduler
pub range_place : (fs : List Frame) (n : ℕ) (w : List ℕ) (i : ℕ)
    → thread_word_in_range fs n w i 0 ≡ has_place n (get_or w i 0)
unfolding thread_word_in_range
range_place fs n w i = if_yes _ _ refl

pub range_starter : (fs : List Frame) (n : ℕ) (w : List ℕ) (i : ℕ)
    → thread_word_in_range fs n w i 1 ≡ leb (get_or w (i + 1) 0) 64
unfolding thread_word_in_range
range_starter fs n w i = if_no _ _ refl ∙ if_yes _ _ refl

pub range_lives : (fs : List Frame) (n : ℕ) (w : List ℕ) (i : ℕ)
    → thread_word_in_range fs n w i 2 ≡ leb (get_or w (i + 2) 0) 1
unfolding thread_word_in_range
range_lives fs n w i = if_no _ _ refl ∙ if_no _ _ refl ∙ if_yes _ _ refl

pub range_items : (fs : List Frame) (n : ℕ) (w : List ℕ) (i j : ℕ) → j < 26
    → thread_word_in_range fs n w i (3 + j) ≡ list_in_range (item_in_range fs n) 25 w (i + 3) j
unfolding thread_word_in_range
range_items fs n w i j h =
    let a : 3 + j - 3 ≡ j = omega arith in
    if_no _ _ (ne_eqb (3 + j) 0 (λ e. omega arith)) ∙ if_no _ _
    (ne_eqb (3 + j) 1 (λ e. omega arith)) ∙ if_no _ _ (ne_eqb (3 + j) 2 (λ e. omega arith))
    ∙ if_yes _ _ (lt-ltb (3 + j) 29 (omega arith))
    ∙ ap (list_in_range (item_in_range fs n) 25 w (i + 3)) a

pub range_variables : (fs : List Frame) (n : ℕ) (w : List ℕ) (i j : ℕ) → j < 26
    → thread_word_in_range fs n w i (29 + j) ≡ list_in_range value_in_range 25 w (i + 29) j
unfolding thread_word_in_range
range_variables fs n w i j h =
    let a : 29 + j - 29 ≡ j = omega arith in
    if_no _ _ (ne_eqb (29 + j) 0 (λ e. omega arith)) ∙ if_no _ _
    (ne_eqb (29 + j) 1 (λ e. omega arith)) ∙ if_no _ _ (ne_eqb (29 + j) 2 (λ e. omega arith))
    ∙ if_no _ _ (le-ltb (29 + j) 29 (omega arith)) ∙ ap (list_in_range value_in_range 25 w (i + 29)) a

pub range_active : (m : ℕ) (w : List ℕ) (i j : ℕ) → j < 65
    → scheduler_in_range m w i j ≡ list_in_range thread_in_range 64 w i j
unfolding scheduler_in_range
range_active m w i j h = if_yes _ _ (lt-ltb j 65 h)

pub range_next : (m : ℕ) (w : List ℕ) (i j : ℕ) → j < 65
    → scheduler_in_range m w i (65 + j) ≡ list_in_range (entry_in_range m) 64 w (i + 65) j
unfolding scheduler_in_range
range_next m w i j h =
    let a : 65 + j - 65 ≡ j = omega arith in
    if_no _ _ (le-ltb (65 + j) 65 (omega arith)) ∙ ap (list_in_range (entry_in_range m) 64 w (i + 65)) a

-- ---- a list's space: its length, its members, 0 in the rest
pub record Space (test : ℕ → Bool) (w : List ℕ) (i most : ℕ) : Type 0 where
  pub room : get_or w i 0 ≤ most
  pub used : (j : ℕ) → j < get_or w i 0 → test (get_or w (i + suc j) 0) ≡ true
  pub unused : (j : ℕ) → get_or w i 0 ≤ j → j < most → get_or w (i + suc j) 0 ≡ 0

pub space_of : (test : ℕ → Bool) (w : List ℕ) (i most : ℕ)
    → ((j : ℕ) → j < suc most → list_in_range test most w i j ≡ true) → Space test w i most
unfolding list_in_range
space_of test w i most h =
    record {
      room = fits;
      used = λ j g. let f = fits in sym (if_yes _ _ (lt-ltb j (get_or w i 0) g)) ∙ h (suc j) (omega arith);
      unused = λ j l g. eqb-true (get_or w (i + suc j) 0) 0 (sym (if_no _ _ (le-ltb j (get_or w i 0) l)) ∙ h (suc j) (omega arith));
    }
  where
    fits : get_or w i 0 ≤ most
    fits = leb-true (get_or w i 0) most (h 0 (omega arith))

pub of_space : (test : ℕ → Bool) (w : List ℕ) (i most : ℕ) → Space test w i most → (j : ℕ)
    → j < suc most → list_in_range test most w i j ≡ true
unfolding list_in_range
of_space test w i most s zero g = le-leb (get_or w i 0) most s.room
of_space test w i most s (suc j) g = go (ltb j (get_or w i 0)) refl
  where
    go : (b : Bool) → ltb j (get_or w i 0) ≡ b
        → (when ltb j (get_or w i 0) then test (get_or w (i + suc j) 0) else eqb (get_or w (i + suc j) 0) 0)
        ≡ true
    go true e = if_yes _ _ e ∙ s.used j (ltb-true j (get_or w i 0) e)
    go false e =
        if_no _ _ e
        ∙ eq-eqb (get_or w (i + suc j) 0) 0 (s.unused j (ltb-false j (get_or w i 0) e) (omega arith))
