-- The words that the code writes are those of the fresh state. Assumes nothing.
use Prim.Native.Nat.{ℕ, zero, suc, ◌+◌, ◌*◌, ◌-◌, ◌<◌, ◌≤◌}
use mathlib.Core.Path.{◌≡◌, refl, sym, ap, ap₂, ◌∙◌, subst}
use mathlib.Core.List.{List, [], ◌∷◌, map}
use mathlib.Core.Bool.{Bool, true, false}
use native.Mathlib.Omega.{arith}
use lib.ListN.{get_or, length, set, replicate, length-set, length-map, length-replicate}
use lib.ListN.{get_or-replicate, get_or-eq_default}
use lib.Seq.{get_or-set_same, get_or-set_other}
use lib.Dec.{ltb, leb}
use borrow.Author.Tests.{ltb-true, ltb-false, leb-true, ne_eqb}
use Rattle.basics.proofs.Ifs.{if_yes, if_no}
use Rattle.text.specs.Frames.{frames_of}
use Rattle.program.specs.Trees.{root_s}
use Rattle.program.specs.Programs.{SharedCell, Program, shared_of, program_of, main_of}
use Rattle.machine.specs.State.{State, Stored, Scheduler, no_scheduler, no_cell, with_cells, with_new}
use Rattle.machine.specs.State.{with_scheduler}
use Rattle.machine.specs.Fresh.{first_cell, main_thread, home_scheduler, fresh}
use Rattle.machine.specs.Words.{item_word, list_word, scheduler_word, cell_word, pack}
use Rattle.machine.specs.Words.{bit}
use Rattle.machine.specs.Inner.Blocks.{pasted, cell_words}
use Rattle.machine.specs.Calls.{call_result, fresh_call}
use Rattle.machine.proofs.WordLaws.{Says, is_pack, pasted_length, pasted_in, pasted_out}
use Rattle.machine.proofs.Blocks.{cells_length, cells_at_lem, put_cells}
use Rattle.machine.proofs.Valid.{no_thread_word, no_scheduler_word, no_cell_word}
use Rattle.machine.proofs.CallRuns.{fresh_called}
use Rattle.states.specs.Inner.Threads.{thread_words_of, with_one_more}
use Rattle.states.specs.Inner.Starts.{main_words, with_shared}
use Rattle.states.specs.declared.thread.ThreadWords.{ThreadWords}
use Rattle.machine.proofs.PastedLaws.{same_pasted}
use Rattle.states.proofs.ThreadSays.{add_says}
use Rattle.states.proofs.SharedLaws.{shared_in, cells_in}
use Rattle.lists.proofs.SchedulerSays.{by_lists, scheduler_put}

-- ---- zeros are a state with nothing in it
-- a member of a list of one thing, or the default after it, which is that thing
replicate_at : {A : Type 0} (n i : ℕ) (x : A) → get_or (replicate n x) i x ≡ x
replicate_at {A} n i x = by (ltb i n) refl
  where
    by : (b : Bool) → ltb i n ≡ b → get_or (replicate n x) i x ≡ x
    by true e = get_or-replicate n i x x (ltb-true i n e)
    by false e = get_or-eq_default (replicate n x) x {n = i} (let l : n ≤ i = ltb-false i n e in rw (length-replicate {A = A} n x) l)

zero_word : (w : List ℕ) (i : ℕ) → w ≡ replicate 4834 0 → get_or w i 0 ≡ 0
zero_word w i e = ap (λ (l : List ℕ). get_or l i 0) e ∙ replicate_at 4834 i 0

none_at : (m k : ℕ) → get_or (no_scheduler ∷ replicate m no_scheduler) k no_scheduler ≡ no_scheduler
none_at m zero = refl
none_at m (suc k) = replicate_at m k no_scheduler

-- no thread, no cell, nobody in a list, no event present
abbrev bare : ℕ → ℕ → State
bare m n =
    record {
      threads = [];
      schedulers = no_scheduler ∷ replicate m no_scheduler;
      cells = [];
      present = replicate n false;
    }

zeros_say : (w : List ℕ) (m n : ℕ) → w ≡ replicate 4834 0 → Says w (bare m n)
zeros_say w m n e =
    record {
      all = ap length e ∙ length-replicate {A = ℕ} 4834 0;
      threads = at 0;
      cells = at 1;
      scheduler = λ k j a g. at (2 + 130 * k + j) ∙ no_scheduler_word j g ∙ ap (λ (x : Scheduler). scheduler_word x j) (sym (none_at m k));
      thread = λ k j a g. at (1042 + 55 * k + j) ∙ no_thread_word j g;
      event = λ k g. at (4562 + k) ∙ ap bit (sym (replicate_at n k false));
      cell = λ j g. at (4578 + j) ∙ no_cell_word;
    }
  where
    at : (i : ℕ) → get_or w i 0 ≡ 0
    at i = zero_word w i e

-- ---- the shared cells: after them the words are 0, as they were
all_cells : (w : List ℕ) (xs : List SharedCell) → w ≡ replicate 4834 0
    → with_shared w xs ≡ pasted w 4578 (cell_words (map first_cell xs)) 256
unfolding with_shared
all_cells w xs e = by (leb (length xs) 256) refl
  where
    cs : List Stored
    cs = map first_cell xs

    B : List ℕ
    B = cell_words (map first_cell xs)

    long : length w ≡ 4834
    long = ap length e ∙ length-replicate {A = ℕ} 4834 0

    by : (b : Bool) → leb (length xs) 256 ≡ b
        → with_shared w xs ≡ pasted w 4578 (cell_words (map first_cell xs)) 256
    by false q = ap (pasted w 4578 B) (if_no _ _ q)
    by true q =
        ap (pasted w 4578 B) (if_yes _ _ q)
        ∙ same_pasted w (pasted w 4578 B (length xs)) 4578 B 256 (rw long (omega arith))
        (rw (cells_length cs) (omega arith)) (pasted_length w 4578 B (length xs) hd hs)
        (λ j g. inside j g (ltb j (length xs)) refl)
        (λ i f. pasted_out w 4578 B (length xs) hd hs i (λ p r. let m = l in f p (omega arith)))
      where
        l : length xs ≤ 256
        l = leb-true (length xs) 256 q

        hd : 4578 + length xs ≤ length w
        hd = let m = l in rw long (omega arith)

        hs : length xs ≤ length (cell_words (map first_cell xs))
        hs = rw (cells_length cs) l

        inside : (j : ℕ) → j < 256 → (b : Bool) → ltb j (length xs) ≡ b
            → get_or (pasted w 4578 (cell_words (map first_cell xs)) (length xs)) (4578 + j) 0
            ≡ get_or (cell_words (map first_cell xs)) j 0
        inside j g true c = pasted_in w 4578 B (length xs) hd hs j (ltb-true j (length xs) c)
        inside j g false c =
            let m : length xs ≤ j = ltb-false j (length xs) c in
            pasted_out w 4578 B (length xs) hd hs (4578 + j) (λ p r. omega arith)
            ∙ zero_word w (4578 + j) e ∙ no_cell_word
            ∙ ap cell_word (sym (get_or-eq_default (map first_cell xs) no_cell {n = j} (rw (length-map xs first_cell) m)))
            ∙ sym (cells_at_lem cs j g)

-- ---- main
main_is : (p : Program) → thread_words_of (main_thread p) ≡ main_words (root_s (main_of p).body)
unfolding item_word
main_is p = refl

-- main, alone in the active list at home
home_says : (w : List ℕ) (s : State) → Says w s → 0 < length s.schedulers
    → get_or s.schedulers 0 no_scheduler ≡ no_scheduler
    → Says (set (set w 2 1) 3 1) (with_scheduler 2 home_scheduler s)
home_says w s h l e = scheduler_put w s h 2 (omega arith) l v home_scheduler (length-set (set w 2 1) 3 1 ∙ length-set w 2 1 ∙ h.all)
    (by_lists home_scheduler (λ j. get_or v (2 + j) 0) active (λ j g. out (2 + (65 + j)) (λ z. omega arith) (λ z. omega arith) ∙ empty (65 + j) (omega arith) ∙ nothing j))
    (λ i f. out i (λ z. f (omega arith) (omega arith)) (λ z. f (omega arith) (omega arith)))
  where
    v : List ℕ
    v = set (set w 2 1) 3 1

    out : (i : ℕ) → (i ≡ 2 → ⊥) → (i ≡ 3 → ⊥) → get_or (set (set w 2 1) 3 1) i 0 ≡ get_or w i 0
    out i a b = get_or-set_other (set w 2 1) 3 i 1 0 b ∙ get_or-set_other w 2 i 1 0 a

    empty : (j : ℕ) → j < 130 → get_or w (2 + j) 0 ≡ 0
    empty j g =
        h.scheduler 0 j (omega arith) g ∙ ap (λ (x : Scheduler). scheduler_word x j) e
        ∙ sym (no_scheduler_word j g)

    nothing : (j : ℕ) → 0 ≡ list_word [] j
    nothing zero = refl
    nothing (suc j) = refl

    active : (j : ℕ) → j < 65 → get_or (set (set w 2 1) 3 1) (2 + j) 0 ≡ list_word (1 ∷ []) j
    active zero g =
        get_or-set_other (set w 2 1) 3 2 1 0 (λ z. omega arith)
        ∙ get_or-set_same w 2 1 0 (rw h.all (omega arith))
    active (suc zero) g =
        get_or-set_same (set w 2 1) 3 1 0 (simp length-set (rw h.all (omega arith)))
    active (suc (suc j)) g =
        out (2 + suc (suc j)) (λ z. omega arith) (λ z. omega arith)
        ∙ empty (suc (suc j)) (omega arith)

-- ---- the whole
pub cells_written : (v w : List ℕ) (xs : List SharedCell) (n : ℕ) → n ≡ length xs
    → v ≡ with_shared w xs → set v 1 n ≡ set (with_shared w xs) 1 (length xs)
cells_written v w xs n e f = ap₂ (λ (u : List ℕ) (k : ℕ). set u 1 k) f e

-- the program of a text's lines, and its state with nothing in it
abbrev program_in : List ℕ → Program
program_in words = program_of (frames_of words)

abbrev bare_in : List ℕ → State
bare_in words =
    bare ((program_of (frames_of words)).schedulers - 1) (length (program_of (frames_of words)).events)

-- w₁ the lent words cleared, w₂ with the shared cells, w₃ with main's thread
pub fresh_words : (words w₁ w₂ w₃ : List ℕ) (b : ℕ) (th : ThreadWords)
    → w₁ ≡ replicate 4834 0
    → w₂ ≡ set (with_shared w₁ (shared_of (frames_of words))) 1 (length (shared_of (frames_of words)))
    → b ≡ root_s (main_of (program_of (frames_of words))).body → th ≡ main_words b
    → w₃ ≡ with_one_more w₂ th
    → set (set w₃ 2 1) 3 1 ≡ pack (fresh (program_of (frames_of words)))
unfolding fresh program_of
fresh_words words w₁ w₂ w₃ b th e₁ e₂ eb et e₃ =
    is_pack (set (set w₃ 2 1) 3 1) (fresh (program_in words)) with_home
  where
    cells : w₂ ≡ set (pasted w₁ 4578 (cell_words (cells_in words)) 256) 1 (length (cells_in words))
    cells =
        e₂
        ∙ ap₂ (λ (u : List ℕ) (k : ℕ). set u 1 k) (all_cells w₁ (shared_in words) e₁)
        (sym (length-map (shared_in words) first_cell))

    with_cells_lem : Says w₂ (with_cells (cells_in words) (bare_in words))
    with_cells_lem = subst (λ (u : List ℕ). Says u (with_cells (cells_in words) (bare_in words))) (sym cells) (put_cells w₁ (bare_in words) (zeros_say w₁ ((program_in words).schedulers - 1) (length (program_in words).events) e₁) (cells_in words))

    with_main : Says w₃ (with_new (main_thread (program_in words)) (with_cells (cells_in words) (bare_in words)))
    with_main = subst (λ (u : List ℕ). Says u (with_new (main_thread (program_in words)) (with_cells (cells_in words) (bare_in words))))
        (sym (e₃ ∙ ap (with_one_more w₂) (et ∙ ap main_words eb ∙ sym (main_is (program_in words))))) (add_says w₂ (with_cells (cells_in words) (bare_in words)) with_cells_lem (main_thread (program_in words)) (omega arith))

    with_home : Says (set (set w₃ 2 1) 3 1) (with_scheduler 2 home_scheduler (with_new (main_thread (program_in words)) (with_cells (cells_in words) (bare_in words))))
    with_home = home_says w₃ (with_new (main_thread (program_in words)) (with_cells (cells_in words) (bare_in words))) with_main (omega arith) refl

-- ---- as a call
pub call_wrong : (words w : List ℕ) → (length w ≡ 4834 → ⊥)
    → call_result 14 0 0 w ≡ fresh_call (frames_of words) w
unfolding fresh_call
call_wrong words w h = sym (ap (λ (b : Bool). elim b [ true ↦ call_result 0 0 0 (pack (fresh (program_of (frames_of words)))) | false ↦ call_result 14 0 0 w ]) (ne_eqb (length w) 4834 h))

pub call_fresh : (words w v : List ℕ) → length w ≡ 4834
    → v ≡ pack (fresh (program_of (frames_of words))) → call_result 0 0 0 v
    ≡ fresh_call (frames_of words) w
call_fresh words w v l e = ap (call_result 0 0 0) e ∙ sym (fresh_called (frames_of words) w l)
