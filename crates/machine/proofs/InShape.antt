-- The words of a state in shape are in range, and words in range say a state in shape. Assumes
-- nothing.
use Prim.Native.Nat.{ℕ, suc, ◌+◌, ◌*◌, ◌-◌, ◌/◌, ◌%◌, ◌^◌, ◌<◌, ◌≤◌}
use mathlib.Core.Path.{◌≡◌, refl, sym, ap, ◌∙◌, subst}
use mathlib.Core.List.{List, map, reverse}
use mathlib.Core.Bool.{Bool, true, false, not}
use native.Mathlib.Omega.{arith}
use native.Mathlib.Nat.{add-zero}
use lib.ListN.{get_or, length, length-map, length-reverse, get_or-eq_default}
use lib.Dec.{ltb, leb, eqb}
use borrow.Author.Tests.{ltb-true, lt-ltb, le-ltb, leb-true, le-leb}
use Rattle.basics.specs.Members.{All}
use Rattle.basics.proofs.Ifs.{if_yes, if_no, and_true, and_both}
use Rattle.language.specs.Places.{has_place}
use Rattle.language.specs.declared.frame.Frame.{Frame}
use Rattle.program.specs.Trees.{frame_at, statement_at, root_s}
use Rattle.program.proofs.Roots.{statement_root}
use Rattle.machine.specs.State.{State, Stored, Item, run, back, drop, Thread, Entry, plain}
use Rattle.machine.specs.State.{waiting, awaiting, Scheduler, no_thread, no_scheduler, no_cell}
use Rattle.machine.specs.State.{is_present}
use Rattle.machine.specs.declared.value.Value.{Value}
use Rattle.machine.specs.declared.value.Value.TheVariants.{Number, Truth, Cell}
use Rattle.machine.specs.Words.{bit, value_word, word_value, item_word, word_item, entry_word}
use Rattle.machine.specs.Words.{word_entry, cell_word, word_cell, list_word, thread_word}
use Rattle.machine.specs.Words.{scheduler_word, words_at, thread_from, scheduler_from, unpack}
use Rattle.machine.specs.Words.{pack, tabulate}
use Rattle.machine.specs.Inner.Ranges.{item_in_range, value_in_range, entry_in_range, thread_in_range}
use Rattle.machine.specs.Inner.Ranges.{cell_in_range, thread_word_in_range, scheduler_in_range}
use Rattle.machine.specs.Inner.Ranges.{in_range}
use Rattle.machine.specs.Shapes.{is_statement, owner_in_range, ValueFits, number, truth, cell}
use Rattle.machine.specs.Shapes.{ItemFits, run_fits, back_fits, drop_fits, EntryFits}
use Rattle.machine.specs.Shapes.{plain_fits, waiting_fits, IsThread, ThreadFits}
use Rattle.machine.specs.Shapes.{awaiting_fits, SchedulerFits, CellFits, Shaped}
use Rattle.machine.proofs.Lists.{all_get_d, all_imply, all_map, all_reverse}
use Rattle.machine.proofs.Regions.{by_thread_word, by_scheduler_word}
use Rattle.machine.proofs.WordLaws.{tab_length, tab_at, Says, thread_says, scheduler_says}
use Rattle.machine.proofs.Blocks.{says_pack}
use Rattle.machine.proofs.Round.{thread_0, thread_1, thread_2, thread_continuation}
use Rattle.machine.proofs.Round.{thread_variables, scheduler_active, scheduler_next}
use Rattle.machine.proofs.Round.{value_below}
use Rattle.machine.proofs.Ranges.{InRange, Space, of_space, range_place, range_starter}
use Rattle.machine.proofs.Ranges.{range_lives, range_items, range_variables, range_active}
use Rattle.machine.proofs.Ranges.{range_next, in_range_lem, range_in}
use Rattle.machine.specs.Calls.{InRangeComputes}
use Rattle.machine.proofs.Valid.{packed, list_all, items_space, values_space, active_space}
use Rattle.machine.proofs.Valid.{next_space, no_thread_word, no_scheduler_word, no_cell_word}

-- ---- single words of a state in shape are in range

thread_in : (t : ℕ) → IsThread t → thread_in_range t ≡ true
unfolding thread_in_range
thread_in t h = and_both (leb 1 t) (leb t 64) (le-leb 1 t h.0) (le-leb t 64 h.1)

in_thread : (t : ℕ) → thread_in_range t ≡ true → IsThread t
unfolding thread_in_range
in_thread t e = let p = and_true (leb 1 t) (leb t 64) e in (leb-true 1 t p.0, leb-true t 64 p.1)

pub value_in_lem : (v : Value) → ValueFits v → value_in_range (value_word v) ≡ true
unfolding value_in_range value_word
value_in_lem (Number n) (number h) = if_yes _ _ (lt-ltb n (2 ^ 32) h)
value_in_lem (Truth true) truth = if_no _ _ refl ∙ if_yes _ _ refl
value_in_lem (Truth false) truth = if_no _ _ refl ∙ if_yes _ _ refl
value_in_lem (Cell c) (cell h) =
    if_no _ _ (le-ltb (2 * 2 ^ 32 + c) (2 ^ 32) (omega arith))
    ∙ if_no _ _ (le-ltb (2 * 2 ^ 32 + c) (2 * 2 ^ 32) (omega arith))
    ∙ le-leb (2 * 2 ^ 32 + c) (2 * 2 ^ 32 + 255) (omega arith)

item_in : (fs : List Frame) (n : ℕ) (x : Item) → ItemFits fs n x
    → item_in_range fs n (item_word x) ≡ true
unfolding item_in_range item_word
item_in fs n (run x) (run_fits h k e) = if_yes _ _ (lt-ltb (root_s x) 1024 h) ∙ k
item_in fs n (back q) (back_fits h k) =
    let a : 1024 + q - 1024 ≡ q = omega arith in
    if_no _ _ (le-ltb (1024 + q) 1024 (omega arith))
    ∙ if_yes _ _ (lt-ltb (1024 + q) 2048 (omega arith)) ∙ ap (has_place n) a ∙ k
item_in fs n drop drop_fits = if_no _ _ refl ∙ if_no _ _ refl

entry_in : (m : ℕ) (e : Entry) → EntryFits m e → entry_in_range m (entry_word e) ≡ true
unfolding entry_in_range entry_word
entry_in m (plain t) (plain_fits h) =
    let l = h.1 in if_yes _ _ (lt-ltb t 128 (omega arith)) ∙ thread_in t h
entry_in m (awaiting t e) (awaiting_fits h g) =
    let l = h.1 in
    let a : (16384 + 128 * e + t) % 128 ≡ t = omega arith in
    let b : (16384 + 128 * e + t - 16384) / 128 ≡ e = omega arith in
    if_no _ _ (le-ltb (16384 + 128 * e + t) 128 (omega arith))
    ∙ if_no _ _ (le-ltb (16384 + 128 * e + t) 16384 (omega arith))
    ∙ and_both _ _ (ap thread_in_range a ∙ thread_in t h) (ap (λ (x : ℕ). ltb x m) b ∙ lt-ltb e m g)
entry_in m (waiting t u) (waiting_fits h g) =
    let l = h.1 in
    let k = g.0 in
    let j = g.1 in
    let a : (128 * u + t) % 128 ≡ t = omega arith in
    let b : (128 * u + t) / 128 ≡ u = omega arith in
    if_no _ _ (le-ltb (128 * u + t) 128 (omega arith))
    ∙ if_yes _ _ (lt-ltb (128 * u + t) 16384 (omega arith))
    ∙ and_both _ _ (ap thread_in_range a ∙ thread_in t h) (ap thread_in_range b ∙ thread_in u g)

cell_in : (n : ℕ) (x : Stored) → CellFits n x → cell_in_range n (cell_word x) ≡ true
unfolding cell_in_range cell_word
cell_in n x h =
    let l : value_word x.content < 2 ^ 34 = value_below x.content h.value in
    let a : (x.owner * 2 ^ 34 + value_word x.content) / 2 ^ 34 ≡ x.owner = omega arith in
    let b : (x.owner * 2 ^ 34 + value_word x.content) % 2 ^ 34 ≡ value_word x.content = omega arith in
    and_both _ _ (ap (owner_in_range n) a ∙ h.owner)
    (ap value_in_range b ∙ value_in_lem x.content h.value)

-- ---- single words in range say what is in shape

in_value : (v : ℕ) → value_in_range v ≡ true → ValueFits (word_value v)
unfolding value_in_range word_value
in_value v h = first (ltb v (2 ^ 32)) refl
  where
    second : ltb v (2 ^ 32) ≡ false → (b : Bool) → ltb v (2 * 2 ^ 32) ≡ b → ValueFits (word_value v)
    second l true e = subst ValueFits (sym (if_no _ _ l ∙ if_yes _ _ e)) truth
    second l false e =
        let g : v ≤ 2 * 2 ^ 32 + 255 = leb-true v (2 * 2 ^ 32 + 255) (sym (if_no _ _ l ∙ if_no _ _ e) ∙ h) in
        subst ValueFits (sym (if_no _ _ l ∙ if_no _ _ e)) (cell (top g))
      where
        top : v ≤ 2 * 2 ^ 32 + 255 → v - 2 * 2 ^ 32 < 256
        top g = omega arith

    first : (b : Bool) → ltb v (2 ^ 32) ≡ b → ValueFits (word_value v)
    first true e = subst ValueFits (sym (if_yes _ _ e)) (number (ltb-true v (2 ^ 32) e))
    first false e = second e (ltb v (2 * 2 ^ 32)) refl

in_item : (fs : List Frame) (n v : ℕ) → item_in_range fs n v ≡ true → ItemFits fs n (word_item fs v)
unfolding item_in_range word_item
in_item fs n v h = first (ltb v 1024) refl
  where
    second : ltb v 1024 ≡ false → (b : Bool) → ltb v 2048 ≡ b → ItemFits fs n (word_item fs v)
    second l true e =
        let g : v < 2048 = ltb-true v 2048 e in
        subst (ItemFits fs n) (sym (if_no _ _ l ∙ if_yes _ _ e))
        (back_fits (low g) (sym (if_no _ _ l ∙ if_yes _ _ e) ∙ h))
      where
        low : v < 2048 → v - 1024 < 1024
        low g = omega arith
    second l false e = subst (ItemFits fs n) (sym (if_no _ _ l ∙ if_no _ _ e)) drop_fits

    first : (b : Bool) → ltb v 1024 ≡ b → ItemFits fs n (word_item fs v)
    first true e =
        let r = statement_root fs v in
        subst (ItemFits fs n) (sym (if_yes _ _ e))
        (run_fits (subst (λ (i : ℕ). i < 1024) (sym r) (ltb-true v 1024 e))
        (ap (λ (i : ℕ). is_statement (frame_at fs i).kind) r ∙ sym (if_yes _ _ e) ∙ h)
        (ap (statement_at fs) r))
    first false e = second e (ltb v 2048) refl

in_entry : (m v : ℕ) → entry_in_range m v ≡ true → EntryFits m (word_entry v)
unfolding entry_in_range word_entry
in_entry m v h = first (ltb v 128) refl
  where
    second : ltb v 128 ≡ false → (b : Bool) → ltb v 16384 ≡ b → EntryFits m (word_entry v)
    second l true e =
        let p = and_true (thread_in_range (v % 128)) (thread_in_range (v / 128)) (sym (if_no _ _ l ∙ if_yes _ _ e) ∙ h) in
        subst (EntryFits m) (sym (if_no _ _ l ∙ if_yes _ _ e))
        (waiting_fits (in_thread (v % 128) p.0) (in_thread (v / 128) p.1))
    second l false e =
        let p = and_true (thread_in_range (v % 128)) (ltb ((v - 16384) / 128) m) (sym (if_no _ _ l ∙ if_no _ _ e) ∙ h) in
        subst (EntryFits m) (sym (if_no _ _ l ∙ if_no _ _ e))
        (awaiting_fits (in_thread (v % 128) p.0) (ltb-true ((v - 16384) / 128) m p.1))

    first : (b : Bool) → ltb v 128 ≡ b → EntryFits m (word_entry v)
    first true e =
        subst (EntryFits m) (sym (if_yes _ _ e)) (plain_fits (in_thread v (sym (if_yes _ _ e) ∙ h)))
    first false e = second e (ltb v 16384) refl

in_cell : (n v : ℕ) → cell_in_range n v ≡ true → CellFits n (word_cell v)
unfolding cell_in_range word_cell
in_cell n v h =
    let p = and_true (owner_in_range n (v / 2 ^ 34)) (value_in_range (v % 2 ^ 34)) h in
    record { owner = p.0; value = in_value (v % 2 ^ 34) p.1 }

-- ---- a list in its space

list_space : (test : ℕ → Bool) (w : List ℕ) (i m : ℕ) (ws : List ℕ)
    → ((j : ℕ) → j < suc m → get_or w (i + j) 0 ≡ list_word ws j)
    → length ws ≤ m → All (λ (v : ℕ). test v ≡ true) ws → Space test w i m
list_space test w i m ws says fits all =
    record {
      room = rw long fits;
      used = λ j g. let l : j < length ws = rw (← long) g in ap test (says (suc j) (omega arith)) ∙ all_get_d (λ (v : ℕ). test v ≡ true) ws 0 j all l;
      unused =
          λ j l g. says (suc j) (omega arith) ∙ get_or-eq_default ws 0 {n = j} (rw (← long) l);
    }
  where
    long : get_or w i 0 ≡ length ws
    long = ap (λ (k : ℕ). get_or w k 0) (sym (add-zero i)) ∙ says 0 (omega arith)

bit_le : (b : Bool) → bit b ≤ 1
bit_le true = omega arith
bit_le false = omega arith

-- ---- the words of a state in shape
module _ (fs : List Frame) (n : ℕ) (w : List ℕ) (s : State) (h : Says w s) (z : Shaped fs n s) where
  thread_range : (k j : ℕ) → k < 64 → j < 55 → ThreadFits fs n (get_or s.threads k no_thread)
      → thread_word_in_range fs n w (1042 + 55 * k) j ≡ true
  thread_range k j a b f =
      by_thread_word (λ (i : ℕ). thread_word_in_range fs n w (1042 + 55 * k) i ≡ true)
      (range_place fs n w (1042 + 55 * k) ∙ ap (has_place n) (thread_says h k 0 (1042 + 55 * k) a (omega arith) (omega arith) ∙ thread_0 x) ∙ f.place)
      (range_starter fs n w (1042 + 55 * k) ∙ le-leb (get_or w (1042 + 55 * k + 1) 0) 64 starts)
      (range_lives fs n w (1042 + 55 * k) ∙ le-leb (get_or w (1042 + 55 * k + 2) 0) 1 lives)
      (λ i g. range_items fs n w (1042 + 55 * k) i g ∙ of_space (item_in_range fs n) w (1042 + 55 * k + 3) 25 items i g)
      (λ i g. range_variables fs n w (1042 + 55 * k) i g ∙ of_space value_in_range w (1042 + 55 * k + 29) 25 values i g) j b
    where
      x : Thread
      x = get_or s.threads k no_thread

      items : Space (item_in_range fs n) w (1042 + 55 * k + 3) 25
      items =
          list_space (item_in_range fs n) w (1042 + 55 * k + 3) 25
          (reverse (map item_word x.continuation))
          (λ i g. thread_says h k (3 + i) (1042 + 55 * k + 3 + i) a (omega arith) (omega arith) ∙ thread_continuation x i (omega arith))
          (rw (length-reverse (map item_word x.continuation) ∙ length-map x.continuation item_word) f.items_room)
          (all_reverse (λ (v : ℕ). item_in_range fs n v ≡ true) (map item_word x.continuation)
          (all_map (ItemFits fs n) (λ (v : ℕ). item_in_range fs n v ≡ true) item_word (item_in fs n) x.continuation f.items))

      values : Space value_in_range w (1042 + 55 * k + 29) 25
      values =
          list_space value_in_range w (1042 + 55 * k + 29) 25 (map value_word x.variables)
          (λ i g. thread_says h k (29 + i) (1042 + 55 * k + 29 + i) a (omega arith) (omega arith) ∙ thread_variables x i (omega arith))
          (rw (length-map x.variables value_word) f.variables_room)
          (all_map ValueFits (λ (v : ℕ). value_in_range v ≡ true) value_word value_in_lem x.variables f.values)

      lives : get_or w (1042 + 55 * k + 2) 0 ≤ 1
      lives = rw (thread_says h k 2 (1042 + 55 * k + 2) a (omega arith) refl ∙ thread_2 x) (bit_le (not x.ended))

      starts : get_or w (1042 + 55 * k + 1) 0 ≤ 64
      starts =
          rw (thread_says h k 1 (1042 + 55 * k + 1) a (omega arith) refl ∙ thread_1 x) f.starter

  scheduler_range : (k j : ℕ) → k < 8 → j < 130
      → SchedulerFits (frame_at fs 0).c (get_or s.schedulers k no_scheduler)
      → scheduler_in_range (frame_at fs 0).c w (2 + 130 * k) j ≡ true
  scheduler_range k j a b f =
      by_scheduler_word (λ (i : ℕ). scheduler_in_range (frame_at fs 0).c w (2 + 130 * k) i ≡ true)
      (λ i g. range_active (frame_at fs 0).c w (2 + 130 * k) i g ∙ of_space thread_in_range w (2 + 130 * k) 64 active i g)
      (λ i g. range_next (frame_at fs 0).c w (2 + 130 * k) i g ∙ of_space (entry_in_range (frame_at fs 0).c) w (2 + 130 * k + 65) 64 next i g) j b
    where
      x : Scheduler
      x = get_or s.schedulers k no_scheduler

      active : Space thread_in_range w (2 + 130 * k) 64
      active =
          list_space thread_in_range w (2 + 130 * k) 64 x.active
          (λ i g. scheduler_says h k i (2 + 130 * k + i) a (omega arith) refl ∙ scheduler_active x i (omega arith)) f.active_room
          (all_imply thread_in f.threads)

      next : Space (entry_in_range (frame_at fs 0).c) w (2 + 130 * k + 65) 64
      next =
          list_space (entry_in_range (frame_at fs 0).c) w (2 + 130 * k + 65) 64 (map entry_word x.next)
          (λ i g. scheduler_says h k (65 + i) (2 + 130 * k + 65 + i) a (omega arith) (omega arith) ∙ scheduler_next x i (omega arith))
          (rw (length-map x.next entry_word) f.next_room)
          (all_map (EntryFits (frame_at fs 0).c) (λ (v : ℕ). entry_in_range (frame_at fs 0).c v ≡ true) entry_word (entry_in (frame_at fs 0).c) x.next f.entries)

  says_range : InRange fs n w
  says_range =
      record {
        all = h.all;
        threads_room = rw h.threads z.threads_room;
        cells_room = rw h.cells z.cells_room;
        scheduler = λ k j a b c. scheduler_range k j a b (z.schedulers k (rw z.count c));
        no_scheduler = λ k j a b c.
            h.scheduler k j a b ∙ ap (λ (x : Scheduler). scheduler_word x j)
            (get_or-eq_default s.schedulers no_scheduler {n = k} (rw z.count c))
            ∙ sym (no_scheduler_word j b);
        thread = λ k j b c. let l : k < length s.threads = rw (← h.threads) c in let m = z.threads_room in thread_range k j (omega arith) b (z.threads k l);
        no_thread = λ k j a b c.
            h.thread k j a b ∙ ap (λ (x : Thread). thread_word x j)
            (get_or-eq_default s.threads no_thread {n = k} (rw (← h.threads) c))
            ∙ sym (no_thread_word j b);
        event = λ e a l. rw (h.event e a) (bit_le (is_present s e));
        no_event = λ e a l. h.event e a ∙ ap bit (get_or-eq_default s.present false {n = e} (rw z.events l));
        cell = λ c l.
            let g : c < length s.cells = rw (← h.cells) l in
            let m = z.cells_room in
            ap (cell_in_range n) (h.cell c (omega arith)) ∙ cell_in n (get_or s.cells c no_cell) (z.cells c g);
        no_cell = λ c a l. h.cell c a ∙ ap cell_word (get_or-eq_default s.cells no_cell {n = c} (rw (← h.cells) l)) ∙ sym no_cell_word;
      }

-- so a state in shape is never 14
pub shaped_in_range : (fs : List Frame) (n : ℕ) (s : State) → Shaped fs n s
    → in_range fs n (pack s) ≡ true
shaped_in_range fs n s z = range_in fs n (pack s) (says_range fs n (pack s) s (says_pack s) z)

-- ---- the state of words in range
module _ (fs : List Frame) (n : ℕ) (w : List ℕ) (h : InRange fs n w) where
  thread_shape : (k : ℕ) → k < get_or w 0 0 → ThreadFits fs n (thread_from fs w k)
  unfolding thread_from
  thread_shape k a =
      record {
        place = sym (range_place fs n w (1042 + 55 * k)) ∙ h.thread k 0 (omega arith) a;
        starter = leb-true (get_or w (1042 + 55 * k + 1) 0) 64 (sym (range_starter fs n w (1042 + 55 * k)) ∙ h.thread k 1 (omega arith) a);
        items_room = rw (length-map (reverse items) (word_item fs) ∙ length-reverse items ∙ tab_length (get_or w (1042 + 55 * k + 3) 0) (λ j. get_or w j 0) (suc (1042 + 55 * k + 3))) (items_space fs n w h k a).room;
        variables_room = rw (length-map values word_value ∙ tab_length (get_or w (1042 + 55 * k + 29) 0) (λ j. get_or w j 0) (suc (1042 + 55 * k + 29))) (values_space fs n w h k a).room;
        items =
            all_map (λ (v : ℕ). item_in_range fs n v ≡ true) (ItemFits fs n) (word_item fs)
            (in_item fs n) (reverse items)
            (all_reverse (λ (v : ℕ). item_in_range fs n v ≡ true) items (list_all (item_in_range fs n) w (1042 + 55 * k + 3) 25 (items_space fs n w h k a)));
        values =
            all_map (λ (v : ℕ). value_in_range v ≡ true) ValueFits word_value in_value values
            (list_all value_in_range w (1042 + 55 * k + 29) 25 (values_space fs n w h k a));
      }
    where
      items : List ℕ
      items = words_at w (1042 + 55 * k + 3)

      values : List ℕ
      values = words_at w (1042 + 55 * k + 29)

  scheduler_shape : (k : ℕ) → k < 8 → k < n
      → SchedulerFits (frame_at fs 0).c (scheduler_from w k)
  unfolding scheduler_from
  scheduler_shape k l a =
      record {
        active_room = rw (tab_length (get_or w (2 + 130 * k) 0) (λ j. get_or w j 0) (suc (2 + 130 * k))) (active_space fs n w h k l a).room;
        next_room = rw (length-map next word_entry ∙ tab_length (get_or w (67 + 130 * k) 0) (λ j. get_or w j 0) (suc (67 + 130 * k))) (next_space fs n w h k l a).room;
        threads = all_imply in_thread (list_all thread_in_range w (2 + 130 * k) 64 (active_space fs n w h k l a));
        entries = all_map (λ (v : ℕ). entry_in_range (frame_at fs 0).c v ≡ true) (EntryFits (frame_at fs 0).c) word_entry (in_entry (frame_at fs 0).c) next (list_all (entry_in_range (frame_at fs 0).c) w (67 + 130 * k) 64 (next_space fs n w h k l a));
      }
    where
      next : List ℕ
      next = words_at w (67 + 130 * k)

  range_shaped : n ≤ 8 → (frame_at fs 0).c ≤ 16 → Shaped fs n (unpack fs n w)
  unfolding unpack
  range_shaped m few =
      record {
        threads_room = rw (tab_length (get_or w 0 0) (thread_from fs w) 0) h.threads_room;
        schedulers_room = rw (tab_length n (scheduler_from w) 0) m;
        cells_room =
            rw (tab_length (get_or w 1 0) (λ c. word_cell (get_or w (4578 + c) 0)) 0) h.cells_room;
        events_room = rw present few;
        count = tab_length n (scheduler_from w) 0;
        events = present;
        threads = λ k g.
            let l : k < get_or w 0 0 = rw (tab_length (get_or w 0 0) (thread_from fs w) 0) at g in
            subst (ThreadFits fs n) (sym (tab_at (get_or w 0 0) (thread_from fs w) k no_thread l)) (thread_shape k l);
        schedulers = λ k g.
            let l : k < n = rw (tab_length n (scheduler_from w) 0) at g in
            subst (SchedulerFits (frame_at fs 0).c) (sym (tab_at n (scheduler_from w) k no_scheduler l)) (scheduler_shape k (omega arith) l);
        cells = λ c g.
            let l : c < get_or w 1 0 = rw (tab_length (get_or w 1 0) (λ i. word_cell (get_or w (4578 + i) 0)) 0) at g in
            subst (CellFits n) (sym (tab_at (get_or w 1 0) (λ i. word_cell (get_or w (4578 + i) 0)) c no_cell l)) (in_cell n (get_or w (4578 + c) 0) (h.cell c l));
      }
    where
      present : length (tabulate (frame_at fs 0).c (λ e. eqb (get_or w (4562 + e) 0) 1) 0) ≡ (frame_at fs 0).c
      present = tab_length (frame_at fs 0).c (λ e. eqb (get_or w (4562 + e) 0) 1) 0

-- words in range say a state in shape
pub in_range_shaped : (fs : List Frame) (n : ℕ) (w : List ℕ) → n ≤ 8 → (frame_at fs 0).c ≤ 16
    → in_range fs n w ≡ true → Shaped fs n (unpack fs n w)
in_range_shaped fs n w m k e = range_shaped fs n w (in_range_lem fs n w e) m k

-- ---- 14: words are in range exactly where they are those of a state in shape
pub in_range_computes : InRangeComputes
in_range_computes fs n m k w = (
  λ e. record { state = unpack fs n w; shaped = in_range_shaped fs n w m k e; words = packed fs n w e },
  λ z. ap (in_range fs n) z.words ∙ shaped_in_range fs n z.state z.shaped,
)
