-- The code's struct of a thread and the state's thread: what is read is the thread's, and a thread
-- stored or added to the words is stored or added in the state. Assumes nothing.
use Prim.Native.Nat.{ℕ, suc, zero, ◌+◌, ◌*◌, ◌<◌, ◌≤◌}
use mathlib.Core.Path.{◌≡◌, refl, sym, ap, ap₂, ◌∙◌, subst}
use mathlib.Core.List.{List, map, reverse}
use native.Mathlib.Omega.{arith}
use lib.ListN.{get_or, length, set, length-map, length-reverse}
use lib.Seq.{ext_get_or}
use Rattle.machine.specs.State.{State, Thread, Item, no_thread, with_thread, with_new}
use Rattle.machine.specs.Words.{item_word, value_word, thread_word}
use Rattle.machine.specs.Inner.Blocks.{part, pasted, padded, thread_words}
use Rattle.states.specs.Inner.Threads.{thread_words_of, fields_at, block_of, with_one_more}
use Rattle.states.specs.declared.thread.ThreadWords.{ThreadWords}
use Rattle.machine.proofs.WordLaws.{part_at, part_length, Says}
use Rattle.machine.proofs.Blocks.{put_thread, put_new, thread_length, thread_at}
use Rattle.machine.proofs.Round.{thread_0, thread_1, thread_2, thread_continuation}
use Rattle.machine.proofs.Round.{thread_variables}
use Rattle.machine.proofs.Padded.{padded-length, padded_at}
use Rattle.machine.proofs.BlockParts.{thread_parts}
use Rattle.states.proofs.Store.{block_place, block_starter, block_alive, block_items}
use Rattle.states.proofs.Store.{block_length, block_continuation, block_values}
use Rattle.states.proofs.Store.{block_variables, one_more}

pub items_length : (is : List Item) → length (reverse (map item_word is)) ≡ length is
items_length is = length-reverse (map item_word is) ∙ length-map is item_word

-- structs with the same fields
pub fields_path : (a b : ThreadWords) → a.place ≡ b.place → a.starter ≡ b.starter
    → a.alive ≡ b.alive → a.items ≡ b.items → a.continuation ≡ b.continuation
    → a.values ≡ b.values → a.variables ≡ b.variables → a ≡ b
fields_path a b p q r s t u v = λ i. record { place = p i; starter = q i; alive = r i; items = s i; continuation = t i; values = u i; variables = v i }

-- ---- a thread read
module _ (w : List ℕ) (s : State) (h : Says w s) (k : ℕ) (l : k < 64) where
  word : (j i : ℕ) → j < 55 → i ≡ 1042 + 55 * k + j
      → get_or w i 0 ≡ thread_word (get_or s.threads k no_thread) j
  word j i b e = ap (λ (m : ℕ). get_or w m 0) e ∙ h.thread k j l b

  run_is : (i : ℕ) (ws : List ℕ) → i + 25 ≤ 4834
      → ((j : ℕ) → j < 25 → get_or w (i + j) 0 ≡ get_or ws j 0) → part w i 25 ≡ padded 25 ws
  run_is i ws g f = ext_get_or 0 (part w i 25) (padded 25 ws) (pl ∙ sym (padded-length 25 ws))
      (λ j q. let m : j < 25 = rw pl at q in part_at w i 25 j m ∙ f j m ∙ sym (padded_at 25 ws j m))
    where
      pl : length (part w i 25) ≡ 25
      pl = part_length w i 25 (rw h.all g)

  pub load_is : fields_at w (1042 + 55 * k) ≡ thread_words_of (get_or s.threads k no_thread)
  load_is = fields_path (fields_at w (1042 + 55 * k)) (thread_words_of x)
      (word 0 (1042 + 55 * k) (omega arith) (omega arith) ∙ thread_0 x)
      (word 1 (1042 + 55 * k + 1) (omega arith) refl ∙ thread_1 x)
      (word 2 (1042 + 55 * k + 2) (omega arith) refl ∙ thread_2 x)
      (word 3 (1042 + 55 * k + 3) (omega arith) refl ∙ thread_continuation x 0 (omega arith) ∙ items_length x.continuation)
      (run_is (1042 + 55 * k + 4) (reverse (map item_word x.continuation)) (omega arith) (λ j g. word (3 + suc j) (1042 + 55 * k + 4 + j) (omega arith) (omega arith) ∙ thread_continuation x (suc j) (omega arith)))
      (word 29 (1042 + 55 * k + 29) (omega arith) refl ∙ thread_variables x 0 (omega arith) ∙ length-map x.variables value_word)
      (run_is (1042 + 55 * k + 30) (map value_word x.variables) (omega arith) (λ j g. word (29 + suc j) (1042 + 55 * k + 30 + j) (omega arith) (omega arith) ∙ thread_variables x (suc j) (omega arith)))
    where
      x : Thread
      x = get_or s.threads k no_thread

-- ---- a thread written
pub block_of_lem : (x : Thread) → block_of (thread_words_of x) ≡ thread_words x
block_of_lem x = ext_get_or 0 (block_of (thread_words_of x)) (thread_words x) (bl ∙ sym (thread_length x))
    (λ j g. let m : j < 55 = rw bl at g in
    thread_parts Same (block_place (thread_words_of x) ∙ sym (thread_0 x)) (block_starter (thread_words_of x) ∙ sym (thread_1 x)) (block_alive (thread_words_of x) ∙ sym (thread_2 x)) items variables j m ∙ sym (thread_at x j m))
  where
    hp : length (thread_words_of x).continuation ≡ 25
    hp = padded-length 25 (reverse (map item_word x.continuation))

    hv : length (thread_words_of x).variables ≡ 25
    hv = padded-length 25 (map value_word x.variables)

    bl : length (block_of (thread_words_of x)) ≡ 55
    bl = block_length (thread_words_of x) hp hv

    Same : ℕ → Type 0
    Same j = get_or (block_of (thread_words_of x)) j 0 ≡ thread_word x j

    items : (j : ℕ) → j < 26 → Same (3 + j)
    items zero g =
        block_items (thread_words_of x) ∙ sym (items_length x.continuation)
        ∙ sym (thread_continuation x 0 g)
    items (suc j) g =
        let z : 3 + suc j ≡ 4 + j = omega arith in
        ap (λ (k : ℕ). get_or (block_of (thread_words_of x)) k 0) z ∙ block_continuation (thread_words_of x) hp hv j (omega arith) ∙ padded_at 25 (reverse (map item_word x.continuation)) j (omega arith) ∙ sym (thread_continuation x (suc j) g)

    variables : (j : ℕ) → j < 26 → Same (29 + j)
    variables zero g =
        block_values (thread_words_of x) hp hv ∙ sym (length-map x.variables value_word)
        ∙ sym (thread_variables x 0 g)
    variables (suc j) g =
        let z : 29 + suc j ≡ 30 + j = omega arith in
        ap (λ (k : ℕ). get_or (block_of (thread_words_of x)) k 0) z ∙ block_variables (thread_words_of x) hp hv j (omega arith) ∙ padded_at 25 (map value_word x.variables) j (omega arith) ∙ sym (thread_variables x (suc j) g)

-- what a caller composes
module _ (w : List ℕ) (s : State) (h : Says w s) where
  pub store_says : (k : ℕ) (x : Thread) → k < 64 → k < length s.threads
      → Says (pasted w (1042 + 55 * k) (block_of (thread_words_of x)) 55) (with_thread (suc k) x s)
  store_says k x a b = subst (λ (l : List ℕ). Says (pasted w (1042 + 55 * k) l 55) (with_thread (suc k) x s)) (sym (block_of_lem x)) (put_thread w s h k x a b)

  pub add_says : (x : Thread) → length s.threads < 64
      → Says (with_one_more w (thread_words_of x)) (with_new x s)
  unfolding with_one_more
  add_says x l = subst (λ (v : List ℕ). Says v (with_new x s)) same (put_new w s h x l)
    where
      same : set (pasted w (1042 + 55 * length s.threads) (thread_words x) 55) 0 (length s.threads + 1)
          ≡ with_one_more w (thread_words_of x)
      same =
          ap₂ (λ (n : ℕ) (b : List ℕ). set (pasted w (1042 + 55 * n) b 55) 0 (n + 1))
          (sym h.threads) (sym (block_of_lem x))
          ∙ one_more w _ (thread_words_of x) (rw h.threads l) refl
