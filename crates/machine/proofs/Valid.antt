-- Words in range are the words of their state: pack undoes unpack. Assumes nothing.
use Prim.Native.Nat.{ℕ, suc, zero, ◌+◌, ◌*◌, ◌-◌, ◌/◌, ◌%◌, ◌^◌, ◌<◌, ◌≤◌}
use mathlib.Core.Path.{◌≡◌, refl, sym, ap, ◌∙◌, subst}
use mathlib.Core.List.{List, [], map, reverse, reverse-reverse}
use mathlib.Core.Bool.{Bool, true, false, not}
use native.Mathlib.Omega.{arith}
use native.Mathlib.Nat.{add-zero}
use native.Mathlib.Decide.{ℕ_discrete}
use lib.ListN.{get_or, get_or-eq_default}
use lib.Dec.{ltb, eqb}
use borrow.Author.Tests.{ltb-true, ltb-false, eq-eqb, ne_eqb, eqb-true, leb-true, le-ltb}
use Rattle.basics.specs.Members.{All, none, more}
use Rattle.basics.proofs.Ifs.{if_yes, if_no, and_true}
use Rattle.language.specs.declared.frame.Frame.{Frame}
use Rattle.program.proofs.Roots.{statement_root}
use Rattle.program.specs.Trees.{frame_at}
use Rattle.machine.specs.State.{Stored, Thread, Scheduler, no_thread, no_scheduler, no_cell}
use Rattle.machine.specs.Words.{bit, value_word, word_value, item_word, word_item, entry_word}
use Rattle.machine.specs.Words.{word_entry, cell_word, word_cell, list_word, thread_word}
use Rattle.machine.specs.Words.{scheduler_word, tabulate, words_at, thread_from, scheduler_from}
use Rattle.machine.specs.Words.{unpack, pack}
use Rattle.machine.specs.Inner.Ranges.{item_in_range, value_in_range, entry_in_range, thread_in_range}
use Rattle.machine.specs.Inner.Ranges.{cell_in_range, in_range}
use Rattle.machine.specs.Shapes.{owner_in_range}
use Rattle.machine.proofs.Lists.{all_reverse}
use Rattle.machine.proofs.Regions.{by_thread_word, by_scheduler_word}
use Rattle.machine.proofs.WordLaws.{tab_length, tab_at, tab_from, Says, is_pack}
use Rattle.machine.proofs.Round.{map_back, thread_0, thread_1, thread_2, thread_continuation}
use Rattle.machine.proofs.Round.{thread_variables, scheduler_active, scheduler_next}
use Rattle.machine.proofs.Ranges.{InRange, Space, space_of, range_items, range_variables}
use Rattle.machine.proofs.Ranges.{range_active, range_next, range_lives, in_range_lem}

-- ---- single words: `x_there` says that the word of what a word says is that word

pub item_there : (fs : List Frame) (n v : ℕ) → item_in_range fs n v ≡ true
    → item_word (word_item fs v) ≡ v
unfolding item_word word_item item_in_range
item_there fs n v h = first (ltb v 1024) refl
  where
    second : 1024 ≤ v → (b : Bool) → ltb v 2048 ≡ b → item_word (word_item fs v) ≡ v
    second l true e = ap item_word (if_no _ _ (le-ltb v 1024 l) ∙ if_yes _ _ e) ∙ up l
      where
        up : 1024 ≤ v → 1024 + (v - 1024) ≡ v
        up l = omega arith
    second l false e =
        ap item_word (if_no _ _ (le-ltb v 1024 l) ∙ if_no _ _ e)
        ∙ sym (eqb-true v 2048 (sym (if_no _ _ e) ∙ sym (if_no _ _ (le-ltb v 1024 l)) ∙ h))

    first : (b : Bool) → ltb v 1024 ≡ b → item_word (word_item fs v) ≡ v
    first true e = ap item_word (if_yes _ _ e) ∙ statement_root fs v
    first false e = second (ltb-false v 1024 e) (ltb v 2048) refl

pub value_there : (v : ℕ) → value_in_range v ≡ true → value_word (word_value v) ≡ v
unfolding value_word word_value value_in_range
value_there v h = first (ltb v (2 ^ 32)) refl
  where
    truth : 2 ^ 32 ≤ v → v ≤ 2 ^ 32 + 1 → Dec (v ≡ 2 ^ 32 + 1)
        → 2 ^ 32 + bit (eqb v (2 ^ 32 + 1)) ≡ v
    truth a b (yes e) = ap (λ c. 2 ^ 32 + bit c) (eq-eqb v (2 ^ 32 + 1) e) ∙ sym e
    truth a b (no e) = ap (λ c. 2 ^ 32 + bit c) (ne_eqb v (2 ^ 32 + 1) e) ∙ low a b e
      where
        low : 2 ^ 32 ≤ v → v ≤ 2 ^ 32 + 1 → (v ≡ 2 ^ 32 + 1 → ⊥) → 2 ^ 32 + 0 ≡ v
        low a b e = omega arith

    second : 2 ^ 32 ≤ v → (b : Bool) → ltb v (2 * 2 ^ 32) ≡ b → value_word (word_value v) ≡ v
    second l true e =
        ap value_word (if_no _ _ (le-ltb v (2 ^ 32) l) ∙ if_yes _ _ e)
        ∙ truth l (leb-true v (2 ^ 32 + 1) (sym (if_no _ _ (le-ltb v (2 ^ 32) l) ∙ if_yes _ _ e) ∙ h)) (ℕ_discrete v (2 ^ 32 + 1))
    second l false e =
        ap value_word (if_no _ _ (le-ltb v (2 ^ 32) l) ∙ if_no _ _ e)
        ∙ up (ltb-false v (2 * 2 ^ 32) e)
      where
        up : 2 * 2 ^ 32 ≤ v → 2 * 2 ^ 32 + (v - 2 * 2 ^ 32) ≡ v
        up a = omega arith

    first : (b : Bool) → ltb v (2 ^ 32) ≡ b → value_word (word_value v) ≡ v
    first true e = ap value_word (if_yes _ _ e)
    first false e = second (ltb-false v (2 ^ 32) e) (ltb v (2 * 2 ^ 32)) refl

pub entry_there : (v : ℕ) → entry_word (word_entry v) ≡ v
unfolding entry_word word_entry
entry_there v = first (ltb v 128) refl
  where
    first : (b : Bool) → ltb v 128 ≡ b → entry_word (word_entry v) ≡ v
    first true e = ap entry_word (if_yes _ _ e)
    first false e = second (ltb v 16384) refl
      where
        both : (v : ℕ) → 128 * (v / 128) + v % 128 ≡ v
        both v = omega arith

        above : 16384 ≤ v → 16384 + 128 * ((v - 16384) / 128) + v % 128 ≡ v
        above l = omega arith

        second : (c : Bool) → ltb v 16384 ≡ c → entry_word (word_entry v) ≡ v
        second true q = ap entry_word (if_no _ _ e ∙ if_yes _ _ q) ∙ both v
        second false q = ap entry_word (if_no _ _ e ∙ if_no _ _ q) ∙ above (ltb-false v 16384 q)

pub cell_there : (n v : ℕ) → cell_in_range n v ≡ true → cell_word (word_cell v) ≡ v
unfolding cell_word word_cell cell_in_range
cell_there n v h =
    ap (λ (y : ℕ). v / 2 ^ 34 * 2 ^ 34 + y) (value_there (v % 2 ^ 34) (and_true (owner_in_range n (v / 2 ^ 34)) (value_in_range (v % 2 ^ 34)) h).1) ∙ both v
  where
    both : (v : ℕ) → v / 2 ^ 34 * 2 ^ 34 + v % 2 ^ 34 ≡ v
    both v = omega arith

-- ---- lists

tab_all : (P : ℕ → Type 0) (n : ℕ) (f : ℕ → ℕ) (i : ℕ) → ((j : ℕ) → j < n → P (f (i + j)))
    → All P (tabulate n f i)
unfolding tabulate
tab_all P zero f i h = none
tab_all P (suc n) f i h =
    let z : i + 0 ≡ i = add-zero i in
    more (subst (λ (k : ℕ). P (f k)) z (h 0 (omega arith))) (tab_all P n f (suc i) (λ j g. let a : i + suc j ≡ suc i + j = omega arith in subst (λ (k : ℕ). P (f k)) a (h (suc j) (omega arith))))

module _ (test : ℕ → Bool) (w : List ℕ) (i most : ℕ) (s : Space test w i most) where
  pub list_all : All (λ (v : ℕ). test v ≡ true) (words_at w i)
  list_all = tab_all (λ (v : ℕ). test v ≡ true) (get_or w i 0) (λ j. get_or w j 0) (suc i) (λ j g. let a : i + suc j ≡ suc i + j = omega arith in subst (λ (k : ℕ). test (get_or w k 0) ≡ true) a (s.used j g))

  list_says : (j : ℕ) → j < suc most → get_or w (i + j) 0 ≡ list_word (words_at w i) j
  list_says zero g =
      ap (λ (k : ℕ). get_or w k 0) (add-zero i)
      ∙ sym (tab_length (get_or w i 0) (λ j. get_or w j 0) (suc i))
  list_says (suc j) g = go (ltb j (get_or w i 0)) refl
    where
      go : (b : Bool) → ltb j (get_or w i 0) ≡ b → get_or w (i + suc j) 0 ≡ get_or (words_at w i) j 0
      go true e = let a : i + suc j ≡ suc i + j = omega arith in
          ap (λ (k : ℕ). get_or w k 0) a
          ∙ sym (tab_from (get_or w i 0) (λ k. get_or w k 0) (suc i) j 0 (ltb-true j (get_or w i 0) e))
      go false e = let l : get_or w i 0 ≤ j = ltb-false j (get_or w i 0) e in
          s.unused j l (omega arith) ∙ sym (get_or-eq_default (words_at w i) 0 {n = j} (rw (tab_length (get_or w i 0) (λ k. get_or w k 0) (suc i)) l))

-- ---- a block is a thread's or a scheduler's where each of its spots is

thread_cases : (x : Thread) (v : ℕ → ℕ) → v 0 ≡ x.place → v 1 ≡ x.starter
    → v 2 ≡ bit (not x.ended)
    → ((j : ℕ) → j < 26 → v (3 + j) ≡ list_word (reverse (map item_word x.continuation)) j)
    → ((j : ℕ) → j < 26 → v (29 + j) ≡ list_word (map value_word x.variables) j)
    → (j : ℕ) → j < 55 → v j ≡ thread_word x j
thread_cases x v a b c d e =
    by_thread_word (λ (j : ℕ). v j ≡ thread_word x j) (a ∙ sym (thread_0 x)) (b ∙ sym (thread_1 x))
    (c ∙ sym (thread_2 x))
    (λ j g. d j g ∙ sym (thread_continuation x j g)) (λ j g. e j g ∙ sym (thread_variables x j g))

scheduler_cases : (x : Scheduler) (v : ℕ → ℕ) → ((j : ℕ) → j < 65 → v j ≡ list_word x.active j)
    → ((j : ℕ) → j < 65 → v (65 + j) ≡ list_word (map entry_word x.next) j)
    → (j : ℕ) → j < 130 → v j ≡ scheduler_word x j
scheduler_cases x v a b =
    by_scheduler_word (λ (j : ℕ). v j ≡ scheduler_word x j)
    (λ j g. a j g ∙ sym (scheduler_active x j g)) (λ j g. b j g ∙ sym (scheduler_next x j g))

nil_word : (j : ℕ) → 0 ≡ list_word [] j
nil_word zero = refl
nil_word (suc j) = refl

bit_there : (v : ℕ) → v ≤ 1 → v ≡ bit (not (eqb v 0))
bit_there zero h = refl
bit_there (suc zero) h = refl
bit_there (suc (suc v)) h = absurd (omega arith)

present_there : (v : ℕ) → v ≤ 1 → v ≡ bit (eqb v 1)
present_there zero h = refl
present_there (suc zero) h = refl
present_there (suc (suc v)) h = absurd (omega arith)

-- ---- the words of what is not there are 0

pub no_thread_word : (j : ℕ) → j < 55 → 0 ≡ thread_word no_thread j
no_thread_word j g =
    thread_cases no_thread (λ i. 0) refl refl refl (λ i q. nil_word i) (λ i q. nil_word i) j g

pub no_scheduler_word : (j : ℕ) → j < 130 → 0 ≡ scheduler_word no_scheduler j
no_scheduler_word j g =
    scheduler_cases no_scheduler (λ i. 0) (λ i q. nil_word i) (λ i q. nil_word i) j g

pub no_cell_word : 0 ≡ cell_word no_cell
unfolding cell_word value_word
no_cell_word = refl

-- an entry of a table, or its default
pub table_there : {A : Type 0} (m k : ℕ) (f : ℕ → A) (d : A) (P : A → Type 0) → (k < m → P (f k))
    → (m ≤ k → P d) → P (get_or (tabulate m f 0) k d)
table_there m k f d P a b = go (ltb k m) refl
  where
    go : (c : Bool) → ltb k m ≡ c → P (get_or (tabulate m f 0) k d)
    go true e = subst P (sym (tab_at m f k d (ltb-true k m e))) (a (ltb-true k m e))
    go false e = subst P (sym (get_or-eq_default (tabulate m f 0) d {n = k} (rw (tab_length m f 0) (ltb-false k m e)))) (b (ltb-false k m e))

-- ---- words in range say each spot of their state
module _ (fs : List Frame) (n : ℕ) (w : List ℕ) (h : InRange fs n w) where
  pub items_space : (k : ℕ) → k < get_or w 0 0 → Space (item_in_range fs n) w (1042 + 55 * k + 3) 25
  items_space k a = space_of (item_in_range fs n) w (1042 + 55 * k + 3) 25 (λ j g. sym (range_items fs n w (1042 + 55 * k) j (omega arith)) ∙ h.thread k (3 + j) (omega arith) a)

  pub values_space : (k : ℕ) → k < get_or w 0 0 → Space value_in_range w (1042 + 55 * k + 29) 25
  values_space k a = space_of value_in_range w (1042 + 55 * k + 29) 25 (λ j g. sym (range_variables fs n w (1042 + 55 * k) j (omega arith)) ∙ h.thread k (29 + j) (omega arith) a)

  pub active_space : (k : ℕ) → k < 8 → k < n → Space thread_in_range w (2 + 130 * k) 64
  active_space k l a = space_of thread_in_range w (2 + 130 * k) 64 (λ j g. sym (range_active (frame_at fs 0).c w (2 + 130 * k) j (omega arith)) ∙ h.scheduler k j l (omega arith) a)

  pub next_space : (k : ℕ) → k < 8 → k < n
      → Space (entry_in_range (frame_at fs 0).c) w (67 + 130 * k) 64
  next_space k l a = subst (λ (i : ℕ). Space (entry_in_range (frame_at fs 0).c) w i 64) (swap k) (space_of (entry_in_range (frame_at fs 0).c) w (2 + 130 * k + 65) 64 (λ j g. sym (range_next (frame_at fs 0).c w (2 + 130 * k) j (omega arith)) ∙ h.scheduler k (65 + j) l (omega arith) a))
    where
      swap : (k : ℕ) → 2 + 130 * k + 65 ≡ 67 + 130 * k
      swap k = omega arith

  pub lives_word : (k : ℕ) → k < get_or w 0 0 → get_or w (1042 + 55 * k + 2) 0 ≤ 1
  lives_word k a = leb-true (get_or w (1042 + 55 * k + 2) 0) 1 (sym (range_lives fs n w (1042 + 55 * k)) ∙ h.thread k 2 (omega arith) a)

  thread_there : (k j : ℕ) → k < get_or w 0 0 → j < 55
      → get_or w (1042 + 55 * k + j) 0 ≡ thread_word (thread_from fs w k) j
  unfolding thread_from
  thread_there k j a g = thread_cases (thread_from fs w k) (λ i. get_or w (1042 + 55 * k + i) 0)
      (ap (λ (m : ℕ). get_or w m 0) (add-zero (1042 + 55 * k))) refl
      (bit_there (get_or w (1042 + 55 * k + 2) 0) (lives_word k a))
      (λ i q. let z : 1042 + 55 * k + (3 + i) ≡ 1042 + 55 * k + 3 + i = omega arith in
      ap (λ (m : ℕ). get_or w m 0) z ∙ list_says (item_in_range fs n) w (1042 + 55 * k + 3) 25 (items_space k a) i (omega arith) ∙ ap (λ (l : List ℕ). list_word l i) (sym continuation))
      (λ i q. let z : 1042 + 55 * k + (29 + i) ≡ 1042 + 55 * k + 29 + i = omega arith in
      ap (λ (m : ℕ). get_or w m 0) z ∙ list_says value_in_range w (1042 + 55 * k + 29) 25 (values_space k a) i (omega arith) ∙ ap (λ (l : List ℕ). list_word l i) (sym values))
      j g
    where
      ps : List ℕ
      ps = words_at w (1042 + 55 * k + 3)

      continuation : reverse (map item_word (map (word_item fs) (reverse (words_at w (1042 + 55 * k + 3)))))
          ≡ words_at w (1042 + 55 * k + 3)
      continuation =
          ap reverse (map_back (λ (v : ℕ). item_in_range fs n v ≡ true) (word_item fs) item_word (item_there fs n) (reverse ps) (all_reverse (λ (v : ℕ). item_in_range fs n v ≡ true) ps (list_all (item_in_range fs n) w (1042 + 55 * k + 3) 25 (items_space k a))))
          ∙ reverse-reverse ps

      values : map value_word (map word_value (words_at w (1042 + 55 * k + 29)))
          ≡ words_at w (1042 + 55 * k + 29)
      values = map_back (λ (v : ℕ). value_in_range v ≡ true) word_value value_word value_there (words_at w (1042 + 55 * k + 29)) (list_all value_in_range w (1042 + 55 * k + 29) 25 (values_space k a))

  scheduler_there : (k j : ℕ) → k < 8 → k < n → j < 130
      → get_or w (2 + 130 * k + j) 0 ≡ scheduler_word (scheduler_from w k) j
  unfolding scheduler_from
  scheduler_there k j l a g = scheduler_cases (scheduler_from w k) (λ i. get_or w (2 + 130 * k + i) 0)
      (λ i q. list_says thread_in_range w (2 + 130 * k) 64 (active_space k l a) i (omega arith))
      (λ i q. let z : 2 + 130 * k + (65 + i) ≡ 67 + 130 * k + i = omega arith in
      ap (λ (m : ℕ). get_or w m 0) z ∙ list_says (entry_in_range (frame_at fs 0).c) w (67 + 130 * k) 64 (next_space k l a) i (omega arith) ∙ ap (λ (l : List ℕ). list_word l i) (sym entries))
      j g
    where
      entries : map entry_word (map word_entry (words_at w (67 + 130 * k))) ≡ words_at w (67 + 130 * k)
      entries = map_back (λ (v : ℕ). entry_in_range (frame_at fs 0).c v ≡ true) word_entry entry_word (λ v _. entry_there v) (words_at w (67 + 130 * k)) (list_all (entry_in_range (frame_at fs 0).c) w (67 + 130 * k) 64 (next_space k l a))

  pub says_unpack : Says w (unpack fs n w)
  unfolding unpack
  says_unpack = record {
    all = h.all;
    threads = sym (tab_length (get_or w 0 0) (thread_from fs w) 0);
    cells = sym (tab_length (get_or w 1 0) (λ c. word_cell (get_or w (4578 + c) 0)) 0);
    scheduler = λ k j a g. table_there n k (scheduler_from w) no_scheduler (λ (x : Scheduler). get_or w (2 + 130 * k + j) 0 ≡ scheduler_word x j)
        (λ q. scheduler_there k j a q g) (λ q. h.no_scheduler k j a g q ∙ no_scheduler_word j g);
    thread = λ k j a g. table_there (get_or w 0 0) k (thread_from fs w) no_thread (λ (x : Thread). get_or w (1042 + 55 * k + j) 0 ≡ thread_word x j)
        (λ q. thread_there k j q g) (λ q. h.no_thread k j a g q ∙ no_thread_word j g);
    event = λ e g. table_there (frame_at fs 0).c e (λ i. eqb (get_or w (4562 + i) 0) 1) false (λ (b : Bool). get_or w (4562 + e) 0 ≡ bit b)
        (λ q. present_there (get_or w (4562 + e) 0) (h.event e g q)) (λ q. h.no_event e g q);
    cell = λ c g. table_there (get_or w 1 0) c (λ i. word_cell (get_or w (4578 + i) 0)) no_cell (λ (x : Stored). get_or w (4578 + c) 0 ≡ cell_word x)
        (λ q. sym (cell_there n (get_or w (4578 + c) 0) (h.cell c q))) (λ q. h.no_cell c g q ∙ no_cell_word);
  }

-- words in range are those of the state that they say
pub packed : (fs : List Frame) (n : ℕ) (w : List ℕ) → in_range fs n w ≡ true
    → w ≡ pack (unpack fs n w)
packed fs n w e = is_pack w (unpack fs n w) (says_unpack fs n w (in_range_lem fs n w e))
