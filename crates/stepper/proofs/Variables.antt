-- A thread's variables, read in the words of its space, are the words of their values. Assumes
-- nothing.
use Prim.Native.Nat.{ℕ, ◌<◌, ◌≤◌}
use mathlib.Core.Path.{◌≡◌, sym, ap, ◌∙◌}
use mathlib.Core.List.{List, map}
use native.Mathlib.Omega.{arith}
use lib.ListN.{length, take, length-map}
use lib.Seq.{ext_get_or, get_or-take, length-take-le}
use Rattle.machine.specs.State.{Thread}
use Rattle.machine.specs.Words.{value_word}
use Rattle.machine.specs.Inner.Blocks.{padded}
use Rattle.machine.proofs.Padded.{padded-length, padded_at}
use Rattle.states.specs.Inner.Threads.{thread_words_of}
use Rattle.turns.specs.Inner.Acts.{variables_in}

take-padded : (n : ℕ) (ws : List ℕ) → length ws ≤ n → take (length ws) (padded n ws) ≡ ws
take-padded n ws h =
    ext_get_or 0 (take (length ws) (padded n ws)) ws long
    (λ j g. let l : j < length ws = rw long at g in get_or-take (length ws) (padded n ws) j 0 l ∙ padded_at n ws j (omega arith))
  where
    long : length (take (length ws) (padded n ws)) ≡ length ws
    long = length-take-le (length ws) (padded n ws) (rw (padded-length n ws) h)

pub variables_words : (x : Thread) → length x.variables ≤ 25
    → variables_in (thread_words_of x) ≡ map value_word x.variables
variables_words x h =
    ap (λ (j : ℕ). take j (padded 25 (map value_word x.variables)))
    (sym (length-map x.variables value_word))
    ∙ take-padded 25 (map value_word x.variables) (rw (length-map x.variables value_word) h)
