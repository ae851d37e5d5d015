-- What an item or a variable more or less is to the thread: the struct's laws, from `thread_words_of`
-- to `thread_words_of`. Assumes nothing.
use Prim.Native.Nat.{ℕ, suc, ◌+◌, ◌-◌, ◌<◌}
use mathlib.Core.Path.{◌≡◌, sym, ap, ap₂, ◌∙◌}
use mathlib.Core.List.{List, [], ◌∷◌, ◌++◌, map, reverse, reverse-cons, map-append}
use native.Mathlib.Omega.{arith}
use native.Mathlib.Numerals.{add-one}
use lib.ListN.{get_or, length, set, length-map, length-append}
use lib.Seq.{get_or_at}
use Rattle.machine.specs.State.{Thread, Item}
use Rattle.machine.specs.declared.value.Value.{Value}
use Rattle.machine.specs.Words.{item_word, value_word}
use Rattle.machine.specs.Inner.Blocks.{padded}
use Rattle.machine.proofs.Padded.{padded_at, padded_push, padded_pop}
use Rattle.states.specs.Inner.Threads.{thread_words_of}
use Rattle.states.specs.Inner.Stacks.{push_item, pop_item, push_value, pop_value}
use Rattle.states.proofs.ThreadSays.{items_length}

abbrev pub with_continuation : List Item → Thread → Thread
with_continuation is x = record { place = x.place; continuation = is; variables = x.variables; starter = x.starter; ended = x.ended }

abbrev pub with_variables : List Value → Thread → Thread
with_variables vs x = record { place = x.place; continuation = x.continuation; variables = vs; starter = x.starter; ended = x.ended }

-- ---- the words of a continuation lie from the bottom: its top item is the last of them
module _ (i : Item) (is : List Item) (room : length is < 25) where
  top_first : reverse (map item_word (i ∷ is)) ≡ reverse (map item_word is) ++ (item_word i ∷ [])
  top_first = reverse-cons (item_word i) (map item_word is)

  pushed : set (padded 25 (reverse (map item_word is))) (length is) (item_word i)
      ≡ padded 25 (reverse (map item_word (i ∷ is)))
  pushed =
      ap (λ (n : ℕ). set (padded 25 (reverse (map item_word is))) n (item_word i))
      (sym (items_length is))
      ∙ padded_push 25 (reverse (map item_word is)) (item_word i) (rw (items_length is) room)
      ∙ ap (padded 25) (sym top_first)

  popped : set (padded 25 (reverse (map item_word (i ∷ is)))) (length is) 0
      ≡ padded 25 (reverse (map item_word is))
  popped =
      ap₂ (λ (ws : List ℕ) (n : ℕ). set (padded 25 ws) n 0) top_first (sym (items_length is))
      ∙ padded_pop 25 (reverse (map item_word is)) (item_word i) (rw (items_length is) room)

  topmost : get_or (padded 25 (reverse (map item_word (i ∷ is)))) (length is) 0 ≡ item_word i
  topmost =
      padded_at 25 (reverse (map item_word (i ∷ is))) (length is) room
      ∙ ap (λ (ws : List ℕ). get_or ws (length is) 0) top_first
      ∙ get_or_at (reverse (map item_word is)) (item_word i) [] 0 (length is) (items_length is)

less_one : (n : ℕ) → suc n - 1 ≡ n
less_one n = omega arith

-- ---- the struct
module _ (x : Thread) where
  pub push_item_is : (i : Item) → length x.continuation < 25
      → push_item (item_word i) (thread_words_of x)
      ≡ thread_words_of (with_continuation (i ∷ x.continuation) x)
  unfolding push_item
  push_item_is i room = λ k. record {
    place = x.place;
    starter = x.starter;
    alive = (thread_words_of x).alive;
    items = add-one (length x.continuation) k;
    continuation = pushed i x.continuation room k;
    values = length x.variables;
    variables = (thread_words_of x).variables;
  }

  -- of a thread whose top item is i
  pub pop_item_is : (i : Item) → length x.continuation < 25
      → pop_item (thread_words_of (with_continuation (i ∷ x.continuation) x)) ≡ thread_words_of x
  unfolding pop_item
  pop_item_is i room = λ k. record {
    place = x.place;
    starter = x.starter;
    alive = (thread_words_of x).alive;
    items = less_one (length x.continuation) k;
    continuation = (ap (λ (n : ℕ). set (padded 25 (reverse (map item_word (i ∷ x.continuation)))) n 0) (less_one (length x.continuation)) ∙ popped i x.continuation room) k;
    values = length x.variables;
    variables = (thread_words_of x).variables;
  }

  pub top_item_is : (i : Item) → length x.continuation < 25
      → get_or (thread_words_of (with_continuation (i ∷ x.continuation) x)).continuation
      ((thread_words_of (with_continuation (i ∷ x.continuation) x)).items - 1) 0
      ≡ item_word i
  top_item_is i room =
      ap (λ (n : ℕ). get_or (padded 25 (reverse (map item_word (i ∷ x.continuation)))) n 0)
      (less_one (length x.continuation))
      ∙ topmost i x.continuation room

  pub push_value_is : (v : Value) → length x.variables < 25
      → push_value (value_word v) (thread_words_of x)
      ≡ thread_words_of (with_variables (x.variables ++ (v ∷ [])) x)
  unfolding push_value
  push_value_is v room = λ k. record {
    place = x.place;
    starter = x.starter;
    alive = (thread_words_of x).alive;
    items = length x.continuation;
    continuation = (thread_words_of x).continuation;
    values = (sym (length-append x.variables (v ∷ []))) k;
    variables =
        (ap (λ (n : ℕ). set (padded 25 (map value_word x.variables)) n (value_word v)) (sym (length-map x.variables value_word))
        ∙ padded_push 25 (map value_word x.variables) (value_word v)
        (rw (length-map x.variables value_word) room)
        ∙ ap (padded 25) (sym (map-append value_word x.variables (v ∷ [])))) k;
  }

  -- of a thread whose last variable is v
  pub pop_value_is : (v : Value) → length x.variables < 25
      → pop_value (thread_words_of (with_variables (x.variables ++ (v ∷ [])) x)) ≡ thread_words_of x
  unfolding pop_value
  pop_value_is v room = λ k. record {
    place = x.place;
    starter = x.starter;
    alive = (thread_words_of x).alive;
    items = length x.continuation;
    continuation = (thread_words_of x).continuation;
    values = fewer k;
    variables =
        (ap₂ (λ (ws : List ℕ) (n : ℕ). set (padded 25 ws) n 0) (map-append value_word x.variables (v ∷ [])) (fewer ∙ sym (length-map x.variables value_word))
        ∙ padded_pop 25 (map value_word x.variables) (value_word v) (rw (length-map x.variables value_word) room)) k;
  }
    where
      fewer : length (x.variables ++ (v ∷ [])) - 1 ≡ length x.variables
      fewer =
          ap (λ (n : ℕ). n - 1) (length-append x.variables (v ∷ []))
          ∙ back (length x.variables)
        where
          back : (n : ℕ) → n + 1 - 1 ≡ n
          back n = omega arith
