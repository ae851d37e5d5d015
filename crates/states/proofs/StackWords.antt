-- An item or a variable more or less, another place, the end: what is written where the thread's
-- words lie. Assumes nothing.
use Prim.Native.Nat.{ℕ, suc, ◌+◌, ◌*◌, ◌-◌, ◌<◌, ◌≤◌}
use mathlib.Core.Path.{◌≡◌, refl, sym, ap, ◌∙◌, subst}
use mathlib.Core.Bool.{Bool, true, false, ◌||◌}
use lib.Dec.{eqb}
use borrow.Author.Tests.{eqb-true}
use mathlib.Core.List.{List, [], ◌∷◌, ◌++◌}
use native.Mathlib.Omega.{arith}
use native.Mathlib.Nat.{add-zero}
use lib.ListN.{get_or, length, set, length-set}
use lib.Seq.{set-append_left, set_at}
use Rattle.machine.proofs.WordLaws.{part_at}
use Rattle.states.specs.Inner.Threads.{thread_in, put_thread, block_of}
use Rattle.states.specs.Inner.Stacks.{push_item, pop_item, push_value, pop_value, move_to, ended}
use Rattle.states.specs.Inner.Stacks.{is_part, count, most, push, pop, SomeWithin}
use Rattle.states.specs.declared.thread.ThreadWords.{ThreadWords}
use Rattle.states.proofs.ThreadLaws.{Wide, in_wide, put_same, put_set}

-- ---- the lists keep their space
pub push_item_wide : (v : ℕ) (x : ThreadWords) → Wide x → Wide (push_item v x)
unfolding push_item
push_item_wide v x h =
    record {
      continuation = length-set x.continuation x.items v ∙ h.continuation;
      variables = h.variables;
    }

pub pop_item_wide : (x : ThreadWords) → Wide x → Wide (pop_item x)
unfolding pop_item
pop_item_wide x h =
    record {
      continuation = length-set x.continuation (x.items - 1) 0 ∙ h.continuation;
      variables = h.variables;
    }

pub push_value_wide : (v : ℕ) (x : ThreadWords) → Wide x → Wide (push_value v x)
unfolding push_value
push_value_wide v x h =
    record {
      continuation = h.continuation;
      variables = length-set x.variables x.values v ∙ h.variables;
    }

pub pop_value_wide : (x : ThreadWords) → Wide x → Wide (pop_value x)
unfolding pop_value
pop_value_wide x h =
    record {
      continuation = h.continuation;
      variables = length-set x.variables (x.values - 1) 0 ∙ h.variables;
    }

pub move_wide : (p : ℕ) (x : ThreadWords) → Wide x → Wide (move_to p x)
unfolding move_to
move_wide p x h = record { continuation = h.continuation; variables = h.variables }

pub ended_wide : (x : ThreadWords) → Wide x → Wide (ended x)
unfolding ended
ended_wide x h = record { continuation = h.continuation; variables = h.variables }

-- ---- one word of the block: the code writes an item or a variable and then the count, so that in
-- between a list and its count disagree
abbrev items_in : ThreadWords → ℕ → List ℕ → ThreadWords
items_in x n ws =
    record {
      place = x.place;
      starter = x.starter;
      alive = x.alive;
      items = n;
      continuation = ws;
      values = x.values;
      variables = x.variables;
    }

abbrev values_in : ThreadWords → ℕ → List ℕ → ThreadWords
values_in x n ws =
    record {
      place = x.place;
      starter = x.starter;
      alive = x.alive;
      items = x.items;
      continuation = x.continuation;
      values = n;
      variables = ws;
    }

set_after : (xs ys : List ℕ) (i v : ℕ) → set (xs ++ ys) (length xs + i) v ≡ xs ++ set ys i v
set_after [] ys i v = ap (λ (n : ℕ). set ys n v) (omega arith)
set_after (x ∷ xs) ys i v = let z : length (x ∷ xs) + i ≡ suc (length xs + i) = omega arith in
    ap (λ (n : ℕ). set (x ∷ (xs ++ ys)) n v) z ∙ ap (λ (l : List ℕ). x ∷ l) (set_after xs ys i v)

module _ (x : ThreadWords) (h : Wide x) where
  set_place : (p : ℕ) → set (block_of x) 0 p ≡ block_of (move_to p x)
  unfolding block_of move_to
  set_place p = refl

  set_ended : set (block_of x) 2 0 ≡ block_of (ended x)
  unfolding block_of ended
  set_ended = refl

  set_items : (m : ℕ) → set (block_of x) 3 m ≡ block_of (items_in x m x.continuation)
  unfolding block_of
  set_items m = refl

  set_item : (n v : ℕ) → n < 25
      → set (block_of x) (4 + n) v ≡ block_of (items_in x x.items (set x.continuation n v))
  unfolding block_of
  set_item n v l = let z : 4 + n ≡ suc (suc (suc (suc n))) = omega arith in
      let c : length x.continuation ≡ 25 = h.continuation in
      ap (λ (i : ℕ). set (block_of x) i v) z
      ∙ ap (λ (ws : List ℕ). x.place ∷ x.starter ∷ x.alive ∷ x.items ∷ ws)
      (set-append_left x.continuation (x.values ∷ x.variables) n v (omega arith))

  set_values : (m : ℕ) → set (block_of x) 29 m ≡ block_of (values_in x m x.variables)
  unfolding block_of
  set_values m =
      ap (λ (ws : List ℕ). x.place ∷ x.starter ∷ x.alive ∷ x.items ∷ ws)
      (set_at x.continuation x.values x.variables m 25 h.continuation)

  set_value : (n v : ℕ) → n < 25
      → set (block_of x) (30 + n) v ≡ block_of (values_in x x.values (set x.variables n v))
  unfolding block_of
  set_value n v l =
      let c : length x.continuation ≡ 25 = h.continuation in
      let z : 30 + n ≡ suc (suc (suc (suc (length x.continuation + suc n)))) = omega arith in
      ap (λ (i : ℕ). set (block_of x) i v) z
      ∙ ap (λ (ws : List ℕ). x.place ∷ x.starter ∷ x.alive ∷ x.items ∷ ws)
      (set_after x.continuation (x.values ∷ x.variables) (suc n) v)

-- ---- what each function of `stack` writes
module _ (w : List ℕ) (k : ℕ) (all : length w ≡ 4834) (room : k < 64) where
  one_word : (y : ThreadWords) (i j v : ℕ) → i ≡ 1042 + 55 * k + j → j < 55
      → set (block_of (thread_in w k)) j v ≡ block_of y → set w i v ≡ put_thread w k y
  one_word y i j v z l e =
      ap (λ (u : List ℕ). set u i v) (sym (put_same w k all room))
      ∙ ap (λ (n : ℕ). set (put_thread w k (thread_in w k)) n v) z
      ∙ put_set w k all room (thread_in w k) (in_wide w k all room) y j v l e

  pub moved : (v p : ℕ) → v ≡ p → set w (1042 + 55 * k) v ≡ put_thread w k (move_to p (thread_in w k))
  moved v p e =
      ap (set w (1042 + 55 * k)) e
      ∙ one_word (move_to p (thread_in w k)) (1042 + 55 * k) 0 p (sym (add-zero (1042 + 55 * k)))
      (omega arith) (set_place (thread_in w k) (in_wide w k all room) p)

  pub ends : set w (1042 + 55 * k + 2) 0 ≡ put_thread w k (ended (thread_in w k))
  ends =
      one_word (ended (thread_in w k)) (1042 + 55 * k + 2) 2 0 refl (omega arith)
      (set_ended (thread_in w k) (in_wide w k all room))

  item_written : (i n v m : ℕ) → i ≡ 1042 + 55 * k + 4 + n → n < 25
      → set (set w i v) (1042 + 55 * k + 3) m
      ≡ put_thread w k (items_in (thread_in w k) m (set (thread_in w k).continuation n v))
  item_written i n v m z l =
      let x : ThreadWords = thread_in w k in
      let h : Wide x = in_wide w k all room in
      let y : ThreadWords = items_in x x.items (set x.continuation n v) in
      let g : Wide y = record {
        continuation = length-set x.continuation n v ∙ h.continuation;
        variables = h.variables;
      } in
      ap (λ (u : List ℕ). set u (1042 + 55 * k + 3) m)
      (one_word y i (4 + n) v (omega arith) (omega arith) (set_item x h n v l))
      ∙ put_set w k all room y g (items_in y m y.continuation) 3 m (omega arith) (set_items y g m)

  value_written : (i n v m : ℕ) → i ≡ 1042 + 55 * k + 30 + n → n < 25
      → set (set w i v) (1042 + 55 * k + 29) m
      ≡ put_thread w k (values_in (thread_in w k) m (set (thread_in w k).variables n v))
  value_written i n v m z l =
      let x : ThreadWords = thread_in w k in
      let h : Wide x = in_wide w k all room in
      let y : ThreadWords = values_in x x.values (set x.variables n v) in
      let g : Wide y = record {
        continuation = h.continuation;
        variables = length-set x.variables n v ∙ h.variables;
      } in
      ap (λ (u : List ℕ). set u (1042 + 55 * k + 29) m)
      (one_word y i (30 + n) v (omega arith) (omega arith) (set_value x h n v l))
      ∙ put_set w k all room y g (values_in y m y.variables) 29 m (omega arith) (set_values y g m)

  item_pushed : (v : ℕ) → (thread_in w k).items < 25
      → set (set w (1042 + 55 * k + 3 + 1 + (thread_in w k).items) v) (1042 + 55 * k + 3) ((thread_in w k).items + 1)
      ≡ put_thread w k (push_item v (thread_in w k))
  unfolding push_item
  item_pushed v l =
      let n : ℕ = (thread_in w k).items in item_written (1042 + 55 * k + 3 + 1 + n) n v (n + 1) (omega arith) l

  item_popped : 0 < (thread_in w k).items → (thread_in w k).items ≤ 25
      → set (set w (1042 + 55 * k + 3 + (thread_in w k).items) 0) (1042 + 55 * k + 3) ((thread_in w k).items - 1)
      ≡ put_thread w k (pop_item (thread_in w k))
  unfolding pop_item
  item_popped g l =
      let n : ℕ = (thread_in w k).items in item_written (1042 + 55 * k + 3 + n) (n - 1) 0 (n - 1) (omega arith) (omega arith)

  value_pushed : (v : ℕ) → (thread_in w k).values < 25
      → set (set w (1042 + 55 * k + 29 + 1 + (thread_in w k).values) v) (1042 + 55 * k + 29) ((thread_in w k).values + 1)
      ≡ put_thread w k (push_value v (thread_in w k))
  unfolding push_value
  value_pushed v l =
      let n : ℕ = (thread_in w k).values in value_written (1042 + 55 * k + 29 + 1 + n) n v (n + 1) (omega arith) l

  value_popped : 0 < (thread_in w k).values → (thread_in w k).values ≤ 25
      → set (set w (1042 + 55 * k + 29 + (thread_in w k).values) 0) (1042 + 55 * k + 29) ((thread_in w k).values - 1)
      ≡ put_thread w k (pop_value (thread_in w k))
  unfolding pop_value
  value_popped g l =
      let n : ℕ = (thread_in w k).values in value_written (1042 + 55 * k + 29 + n) (n - 1) 0 (n - 1) (omega arith) (omega arith)

  -- the list at that place of the thread's words
  module _ (part : ℕ) (is : is_part part ≡ true) where
    abbrev at : ℕ
    at = 1042 + 55 * k + part

    either : (P : ℕ → Type 0) → P 3 → P 29 → P part
    either P a b = by (eqb part 3) refl
      where
        by : (c : Bool) → eqb part 3 ≡ c → P part
        by true e = subst P (sym (eqb-true part 3 e)) a
        by false e = subst P (sym (eqb-true part 29 (sym (ap (λ (c : Bool). c || eqb part 29) e) ∙ is))) b

    pub pushed : (v : ℕ) → count part (thread_in w k) < most part
        → set (set w (at + 1 + get_or w at 0) v) at (get_or w at 0 + 1)
        ≡ put_thread w k (push part v (thread_in w k))
    pushed v = either (λ (p : ℕ). count p (thread_in w k) < most p
        → set (set w (1042 + 55 * k + p + 1 + get_or w (1042 + 55 * k + p) 0) v) (1042 + 55 * k + p) (get_or w (1042 + 55 * k + p) 0 + 1)
        ≡ put_thread w k (push p v (thread_in w k))) (item_pushed v) (value_pushed v)

    pub popped : SomeWithin (most part) (count part (thread_in w k))
        → set (set w (at + get_or w at 0) 0) at (get_or w at 0 - 1)
        ≡ put_thread w k (pop part (thread_in w k))
    popped = either (λ (p : ℕ). SomeWithin (most p) (count p (thread_in w k))
        → set (set w (1042 + 55 * k + p + get_or w (1042 + 55 * k + p) 0) 0) (1042 + 55 * k + p) (get_or w (1042 + 55 * k + p) 0 - 1)
        ≡ put_thread w k (pop p (thread_in w k))) (λ h. item_popped h.0 h.1) (λ h. value_popped h.0 h.1)

pub ruleset stack_laws = (moved, ends)

-- ---- the top item read
module _ (w : List ℕ) (k : ℕ) where
  read : (i n : ℕ) → i ≡ 1042 + 55 * k + 4 + n → n < 25
      → get_or w i 0 ≡ get_or (thread_in w k).continuation n 0
  read i n z l = ap (λ (j : ℕ). get_or w j 0) z ∙ sym (part_at w (1042 + 55 * k + 4) 25 n l)

  pub top_none : get_or w (1042 + 55 * k + 3) 0 ≡ 0
      → get_or w (1042 + 55 * k + 4) 0 ≡ get_or (thread_in w k).continuation ((thread_in w k).items - 1) 0
  top_none e = read (1042 + 55 * k + 4) ((thread_in w k).items - 1) (omega arith) (omega arith)

  pub top_there : (get_or w (1042 + 55 * k + 3) 0 ≡ 0 → ⊥) → (thread_in w k).items ≤ 25
      → get_or w (1042 + 55 * k + 3 + get_or w (1042 + 55 * k + 3) 0) 0
      ≡ get_or (thread_in w k).continuation ((thread_in w k).items - 1) 0
  top_there e l =
      read (1042 + 55 * k + 3 + get_or w (1042 + 55 * k + 3) 0)
      ((thread_in w k).items - 1) (omega arith) (omega arith)

pub ruleset top_laws = (top_none, top_there)
