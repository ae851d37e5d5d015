-- What the code does to a thread's struct: one item or one variable more or less, another place,
-- the end. No reader has to believe it: each is what the rules do to the thread (proofs/StackLaws;
-- place and end in crate stepper). Assumes nothing: definitions.
use Rattle.std.specs.Prelude.{ℕ, ◌+◌, ◌-◌, ◌<◌, ◌≤◌, Bool, ◌||◌, eqb, if◌then◌else◌, List, set}
use Rattle.language.specs.Limits.{most_variables, most_items}
use Rattle.machine.specs.Offsets.{items_field, variables_field}
use Rattle.states.specs.declared.thread.ThreadWords.{ThreadWords}

-- the thread with so many items and variables, and the words of both
abbrev with_stacks : ThreadWords → ℕ → List ℕ → ℕ → List ℕ → ThreadWords
with_stacks x n items m values =
    record {
      place = x.place;
      starter = x.starter;
      alive = x.alive;
      items = n;
      continuation = items;
      values = m;
      variables = values;
    }

unfoldable pub push_item : ℕ → ThreadWords → ThreadWords
push_item v x =
    with_stacks x (x.items + 1) (set x.continuation x.items v) x.values x.variables

unfoldable pub pop_item : ThreadWords → ThreadWords
pop_item x =
    with_stacks x (x.items - 1) (set x.continuation (x.items - 1) 0) x.values x.variables

unfoldable pub push_value : ℕ → ThreadWords → ThreadWords
push_value v x =
    with_stacks x x.items x.continuation (x.values + 1) (set x.variables x.values v)

unfoldable pub pop_value : ThreadWords → ThreadWords
pop_value x =
    with_stacks x x.items x.continuation (x.values - 1) (set x.variables (x.values - 1) 0)

-- the same of either list, by the place at which it lies in the thread's words: how many words it
-- has, and how many it may have
abbrev pub is_part : ℕ → Bool
is_part part = eqb part items_field || eqb part variables_field

abbrev pub count : ℕ → ThreadWords → ℕ
count part x = if eqb part items_field then x.items else x.values

abbrev pub most : ℕ → ℕ
most part = if eqb part items_field then most_items else most_variables

abbrev pub push : ℕ → ℕ → ThreadWords → ThreadWords
push part v x = if eqb part items_field then push_item v x else push_value v x

abbrev pub pop : ℕ → ThreadWords → ThreadWords
pop part x = if eqb part items_field then pop_item x else pop_value x

unfoldable pub move_to : ℕ → ThreadWords → ThreadWords
move_to p x =
    record {
      place = p;
      starter = x.starter;
      alive = x.alive;
      items = x.items;
      continuation = x.continuation;
      values = x.values;
      variables = x.variables;
    }

unfoldable pub ended : ThreadWords → ThreadWords
ended x =
    record {
      place = x.place;
      starter = x.starter;
      alive = 0;
      items = x.items;
      continuation = x.continuation;
      values = x.values;
      variables = x.variables;
    }

-- what a caller has to show before one is taken off: there is one, and all are within their space
abbrev pub SomeWithin : ℕ → ℕ → Type 0
SomeWithin space n = (0 < n) × (n ≤ space)
