-- A thread's words as the code's struct, read, written and added. No reader has to believe it: on
-- words that say a state it is the state's thread (proofs/ThreadSays). Assumes nothing:
-- definitions.
use Rattle.std.specs.Prelude.{List, ◌∷◌, ◌++◌, map, reverse, not, ℕ, ◌+◌, ◌*◌, ltb, get_or, length, set}
use Rattle.basics.specs.If.{when◌then◌else◌}
use Rattle.language.specs.Limits.{most_variables, most_threads, most_items}
use Rattle.machine.specs.Offsets.{thread_count_at, threads_at, thread_length, starter_field}
use Rattle.machine.specs.Offsets.{lives_field, items_field, variables_field}
use Rattle.machine.specs.State.{Thread}
use Rattle.machine.specs.Words.{bit, item_word, value_word}
use Rattle.machine.specs.Inner.Blocks.{part, pasted, padded}
use Rattle.states.specs.declared.thread.ThreadWords.{ThreadWords}

-- a thread in the code's form
abbrev pub thread_words_of : Thread → ThreadWords
thread_words_of x =
    record {
      place = x.place;
      starter = x.starter;
      alive = bit (not x.ended);
      items = length x.continuation;
      continuation = padded most_items (reverse (map item_word x.continuation));
      values = length x.variables;
      variables = padded most_variables (map value_word x.variables);
    }

-- the struct read at a place of the words
abbrev pub fields_at : List ℕ → ℕ → ThreadWords
fields_at w at =
    record {
      place = get_or w at 0;
      starter = get_or w (at + starter_field) 0;
      alive = get_or w (at + lives_field) 0;
      items = get_or w (at + items_field) 0;
      continuation = part w (at + (items_field + 1)) most_items;
      values = get_or w (at + variables_field) 0;
      variables = part w (at + (variables_field + 1)) most_variables;
    }

-- its 55 words
unfoldable pub block_of : ThreadWords → List ℕ
block_of x =
    x.place ∷ x.starter ∷ x.alive ∷ x.items ∷ (x.continuation ++ (x.values ∷ x.variables))

-- thread k, from 0: where it is in the words, and the words with another in its place
abbrev pub thread_in : List ℕ → ℕ → ThreadWords
thread_in w k = fields_at w (threads_at + thread_length * k)

unfoldable pub put_thread : List ℕ → ℕ → ThreadWords → List ℕ
put_thread w k x = pasted w (threads_at + thread_length * k) (block_of x) thread_length

-- the words with one more thread, the last; 64 are their space
unfoldable pub with_one_more : List ℕ → ThreadWords → List ℕ
with_one_more w x =
    when ltb (get_or w thread_count_at 0) most_threads
    then set (pasted w (threads_at + thread_length * get_or w thread_count_at 0) (block_of x) thread_length)
    thread_count_at (get_or w thread_count_at 0 + 1)
    else w
