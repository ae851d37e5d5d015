-- The words of a packed state, spot by spot; and before them what they are made of: tables, parts
-- of lists, a block of a list replaced. Assumes nothing.
use Prim.Native.Nat.{ℕ, suc, zero, ◌+◌, ◌*◌, ◌-◌, ◌/◌, ◌%◌, ◌<◌, ◌≤◌}
use mathlib.Core.Path.{◌≡◌, refl, sym, ap, ap₂, ◌∙◌}
use mathlib.Core.List.{List, ◌++◌}
use mathlib.Core.Bool.{Bool, true, false}
use native.Mathlib.Omega.{arith}
use native.Mathlib.Nat.{zero-add}
use native.Mathlib.Numerals.{add-one}
use lib.ListN.{get_or, length, set, take, drop, length-drop, get_or-append}
use lib.Seq.{ext_get_or, get_or-take, get_or-drop, length-take-le, length-paste, length_paste_head}
use lib.Seq.{get_or-append-add, paste-zero, paste-suc}
use lib.Dec.{ltb}
use borrow.Author.Tests.{ltb-true, ltb-false, lt-ltb, le-ltb, eq-eqb, ne_eqb}
use Rattle.basics.proofs.Ifs.{if_yes, if_no}
use Rattle.machine.specs.State.{State, no_thread, no_scheduler, no_cell, is_present, used_cells}
use Rattle.machine.specs.Words.{bit, tabulate, thread_word, scheduler_word, cell_word, word_of}
use Rattle.machine.specs.Words.{pack}
use Rattle.machine.specs.Inner.Blocks.{part, pasted}
use Rattle.machine.proofs.Regions.{by_region}

-- ---- tables
pub tab_length : {A : Type 0} (n : ℕ) (f : ℕ → A) (i : ℕ) → length (tabulate n f i) ≡ n
unfolding tabulate
tab_length zero f i = refl
tab_length (suc n) f i = ap suc (tab_length n f (suc i))

pub tab_from : {A : Type 0} (n : ℕ) (f : ℕ → A) (i j : ℕ) (d : A) → j < n
    → get_or (tabulate n f i) j d ≡ f (i + j)
unfolding tabulate
tab_from zero f i j d h = absurd (omega arith)
tab_from (suc n) f i zero d h = ap f (omega arith)
tab_from (suc n) f i (suc j) d h = tab_from n f (suc i) j d (omega arith) ∙ ap f (omega arith)

pub tab_at : {A : Type 0} (n : ℕ) (f : ℕ → A) (j : ℕ) (d : A) → j < n
    → get_or (tabulate n f 0) j d ≡ f j
tab_at n f j d h = tab_from n f 0 j d h ∙ ap f (zero-add j)

-- ---- parts
pub part_at : (w : List ℕ) (at n j : ℕ) → j < n → get_or (part w at n) j 0 ≡ get_or w (at + j) 0
unfolding part
part_at w at n j h = get_or-take n (drop at w) j 0 h ∙ get_or-drop at w j 0

pub part_length : (w : List ℕ) (at n : ℕ) → at + n ≤ length w → length (part w at n) ≡ n
unfolding part
part_length w at n h = length-take-le n (drop at w) (simp length-drop (omega arith))

-- ---- a block replaced
pub pasted_zero : (d : List ℕ) (at : ℕ) (s : List ℕ) → d ≡ pasted d at s 0
unfolding pasted
pasted_zero d at s = paste-zero d at s

pub pasted_more : (d s a : List ℕ) (at j v : ℕ) → a ≡ pasted d at s j → v ≡ get_or s j 0
    → at + j < length d → j < length s → set a (at + j) v ≡ pasted d at s (j + 1)
unfolding pasted
pasted_more d s a at j v e q hd hs =
    ap (λ (r : List ℕ). set r (at + j) v) e ∙ ap (λ (x : ℕ). set (pasted d at s j) (at + j) x) q
    ∙ paste-suc d at s j 0 hd hs ∙ ap (pasted d at s) (sym (add-one j))

module _ (d : List ℕ) (at : ℕ) (s : List ℕ) (n : ℕ) (hd : at + n ≤ length d) (hs : n ≤ length s) where
  pub pasted_length : length (pasted d at s n) ≡ length d
  unfolding pasted
  pasted_length = length-paste d at s n hd hs

  head : length (take at d ++ take n s) ≡ at + n
  head = length_paste_head d at s n (omega arith) hs

  pub pasted_in : (j : ℕ) → j < n → get_or (pasted d at s n) (at + j) 0 ≡ get_or s j 0
  unfolding pasted
  pasted_in j h =
      let a : length (take at d) ≡ at = length-take-le at d (omega arith) in
      get_or-append (take at d ++ take n s) (drop (at + n) d) 0 (at + j) (rw head (omega arith))
      ∙ ap (λ (k : ℕ). get_or (take at d ++ take n s) (k + j) 0) (sym a)
      ∙ get_or-append-add (take at d) (take n s) j 0 ∙ get_or-take n s j 0 h

  before : (i : ℕ) → i < at → get_or (pasted d at s n) i 0 ≡ get_or d i 0
  unfolding pasted
  before i h =
      get_or-append (take at d ++ take n s) (drop (at + n) d) 0 i (rw head (omega arith))
      ∙ get_or-append (take at d) (take n s) 0 i (rw (length-take-le at d (omega arith)) h)
      ∙ get_or-take at d i 0 h

  beyond : (m : ℕ) → get_or (pasted d at s n) (at + n + m) 0 ≡ get_or d (at + n + m) 0
  unfolding pasted
  beyond m =
      ap (λ (k : ℕ). get_or (take at d ++ take n s ++ drop (at + n) d) (k + m) 0) (sym head)
      ∙ get_or-append-add (take at d ++ take n s) (drop (at + n) d) m 0 ∙ get_or-drop (at + n) d m 0

  pub pasted_out : (i : ℕ) → (at ≤ i → i < at + n → ⊥) → get_or (pasted d at s n) i 0 ≡ get_or d i 0
  pasted_out i h = go (ltb i at) refl
    where
      go : (b : Bool) → ltb i at ≡ b → get_or (pasted d at s n) i 0 ≡ get_or d i 0
      go true e = before i (ltb-true i at e)
      go false e =
          let g : at ≤ i = ltb-false i at e in
          let k : i ≡ at + n + (i - (at + n)) = over (ltb i (at + n)) refl g in
          ap (λ (m : ℕ). get_or (pasted d at s n) m 0) k ∙ beyond (i - (at + n))
          ∙ ap (λ (m : ℕ). get_or d m 0) (sym k)
        where
          over : (b : Bool) → ltb i (at + n) ≡ b → at ≤ i → i ≡ at + n + (i - (at + n))
          over true q g = absurd (h g (ltb-true i (at + n) q))
          over false q g = let l : at + n ≤ i = ltb-false i (at + n) q in omega arith

-- ---- the words of a state
pub pack-length : (s : State) → length (pack s) ≡ 4834
unfolding pack
pack-length s = tab_length 4834 (word_of s) 0

pack_at : (s : State) (i : ℕ) → i < 4834 → get_or (pack s) i 0 ≡ word_of s i
unfolding pack
pack_at s i h = tab_at 4834 (word_of s) i 0 h

pub word_0 : (s : State) → get_or (pack s) 0 0 ≡ length s.threads
unfolding word_of
word_0 s = pack_at s 0 (omega arith) ∙ if_yes _ _ (eq-eqb 0 0 refl)

pub word_1 : (s : State) → get_or (pack s) 1 0 ≡ used_cells s.cells
unfolding word_of
word_1 s =
    pack_at s 1 (omega arith) ∙ if_no _ _ (ne_eqb 1 0 (λ e. omega arith))
    ∙ if_yes _ _ (eq-eqb 1 1 refl)

pub word_scheduler : (s : State) (k j : ℕ) → k < 8 → j < 130
    → get_or (pack s) (2 + 130 * k + j) 0 ≡ scheduler_word (get_or s.schedulers k no_scheduler) j
unfolding word_of
word_scheduler s k j h g =
    let i : ℕ = 2 + 130 * k + j in
    let a : 2 + (i - 2) / 130 - 2 ≡ k = omega arith in
    let b : (i - 2) % 130 ≡ j = omega arith in
    pack_at s i (omega arith) ∙ if_no _ _ (ne_eqb i 0 (λ e. omega arith))
    ∙ if_no _ _ (ne_eqb i 1 (λ e. omega arith))
    ∙ if_yes _ _ (lt-ltb i 1042 (omega arith))
    ∙ ap₂ (λ (x y : ℕ). scheduler_word (get_or s.schedulers x no_scheduler) y) a b

pub word_thread : (s : State) (k j : ℕ) → k < 64 → j < 55
    → get_or (pack s) (1042 + 55 * k + j) 0 ≡ thread_word (get_or s.threads k no_thread) j
unfolding word_of
word_thread s k j h g =
    let i : ℕ = 1042 + 55 * k + j in
    let a : (i - 1042) / 55 ≡ k = omega arith in
    let b : (i - 1042) % 55 ≡ j = omega arith in
    pack_at s i (omega arith) ∙ if_no _ _ (ne_eqb i 0 (λ e. omega arith))
    ∙ if_no _ _ (ne_eqb i 1 (λ e. omega arith))
    ∙ if_no _ _ (le-ltb i 1042 (omega arith)) ∙ if_yes _ _ (lt-ltb i 4562 (omega arith))
    ∙ ap₂ (λ (x y : ℕ). thread_word (get_or s.threads x no_thread) y) a b

pub word_event : (s : State) (e : ℕ) → e < 16 → get_or (pack s) (4562 + e) 0 ≡ bit (is_present s e)
unfolding word_of
word_event s e g =
    let i : ℕ = 4562 + e in
    let a : i - 4562 ≡ e = omega arith in
    pack_at s i (omega arith) ∙ if_no _ _ (ne_eqb i 0 (λ e. omega arith))
    ∙ if_no _ _ (ne_eqb i 1 (λ e. omega arith))
    ∙ if_no _ _ (le-ltb i 1042 (omega arith)) ∙ if_no _ _ (le-ltb i 4562 (omega arith))
    ∙ if_yes _ _ (lt-ltb i 4578 (omega arith)) ∙ ap (λ (x : ℕ). bit (is_present s x)) a

pub word_cell : (s : State) (j : ℕ) → j < 256
    → get_or (pack s) (4578 + j) 0 ≡ cell_word (get_or s.cells j no_cell)
unfolding word_of
word_cell s j g =
    let i : ℕ = 4578 + j in
    let a : i - 4578 ≡ j = omega arith in
    pack_at s i (omega arith) ∙ if_no _ _ (ne_eqb i 0 (λ e. omega arith))
    ∙ if_no _ _ (ne_eqb i 1 (λ e. omega arith))
    ∙ if_no _ _ (le-ltb i 1042 (omega arith)) ∙ if_no _ _ (le-ltb i 4562 (omega arith))
    ∙ if_no _ _ (le-ltb i 4578 (omega arith)) ∙ ap (λ (x : ℕ). cell_word (get_or s.cells x no_cell)) a

-- each spot of w says what it says of the state s: the laws about changed words are stated of this,
-- and come to `pack` only at the end, by `is_pack`
pub record Says (w : List ℕ) (s : State) : Type 0 where
  pub all : length w ≡ 4834
  pub threads : get_or w 0 0 ≡ length s.threads
  pub cells : get_or w 1 0 ≡ used_cells s.cells
  pub scheduler : (k j : ℕ) → k < 8 → j < 130
      → get_or w (2 + 130 * k + j) 0 ≡ scheduler_word (get_or s.schedulers k no_scheduler) j
  pub thread : (k j : ℕ) → k < 64 → j < 55
      → get_or w (1042 + 55 * k + j) 0 ≡ thread_word (get_or s.threads k no_thread) j
  pub event : (e : ℕ) → e < 16 → get_or w (4562 + e) 0 ≡ bit (is_present s e)
  pub cell : (j : ℕ) → j < 256 → get_or w (4578 + j) 0 ≡ cell_word (get_or s.cells j no_cell)

-- the same at an index i that is not written as a block's first and an offset
module _ {w : List ℕ} {s : State} (h : Says w s) where
  pub thread_says : (k j i : ℕ) → k < 64 → j < 55 → i ≡ 1042 + 55 * k + j
      → get_or w i 0 ≡ thread_word (get_or s.threads k no_thread) j
  thread_says k j i a b e = ap (λ (m : ℕ). get_or w m 0) e ∙ h.thread k j a b

  pub scheduler_says : (k j i : ℕ) → k < 8 → j < 130 → i ≡ 2 + 130 * k + j
      → get_or w i 0 ≡ scheduler_word (get_or s.schedulers k no_scheduler) j
  scheduler_says k j i a b e = ap (λ (m : ℕ). get_or w m 0) e ∙ h.scheduler k j a b

-- words that say a state are its words
pub is_pack : (w : List ℕ) (s : State) → Says w s → w ≡ pack s
is_pack w s h =
    ext_get_or 0 w (pack s) (h.all ∙ sym (pack-length s))
    (λ i g. by_region (λ (i : ℕ). get_or w i 0 ≡ get_or (pack s) i 0) (h.threads ∙ sym (word_0 s)) (h.cells ∙ sym (word_1 s))
    (λ k j a b. h.scheduler k j a b ∙ sym (word_scheduler s k j a b))
    (λ k j a b. h.thread k j a b ∙ sym (word_thread s k j a b))
    (λ e a. h.event e a ∙ sym (word_event s e a)) (λ c a. h.cell c a ∙ sym (word_cell s c a)) i (rw h.all at g))
