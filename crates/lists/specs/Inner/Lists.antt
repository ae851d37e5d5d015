-- What the code does to the lists of schedulers in the words. No reader has to believe it: on words
-- that say a state each is what the rules do to the state (proofs/SchedulerSays, proofs/Instants).
-- Scheduler k counts from 0. Assumes nothing: definitions.
use Rattle.std.specs.Prelude.{List, [], ◌∷◌, ◌++◌, Bool, false, not, ℕ, ◌+◌, ◌-◌, ◌*◌, ◌/◌, ◌%◌, ◌<◌, ◌≤◌, ltb, eqb, length, get_or, set, drop}
use Rattle.basics.specs.If.{when◌then◌else◌}
use Rattle.language.specs.Limits.{most_schedulers, most_threads}
use Rattle.machine.specs.Offsets.{thread_count_at, schedulers_at, scheduler_length}
use Rattle.machine.specs.Offsets.{list_length, next_list_at, waiting_factor, awaiting_from}
use Rattle.basics.specs.If.{keep_if}
use Rattle.machine.specs.Words.{words_at}
use Rattle.machine.specs.Inner.Blocks.{part, pasted, padded}
use Rattle.lists.specs.Inner.Families.{is_ready_word, is_ready_by}
use Rattle.lists.specs.declared.list.Wanted.{Wanted}
use Rattle.lists.specs.declared.list.Wanted.TheVariants.{Ready, Awaiting}

-- the words without the first, then 0
unfoldable pub shifted : List ℕ → List ℕ
shifted ws = drop 1 ws ++ (0 ∷ [])

-- the first active thread of scheduler k has left; 64 are its space
unfoldable pub without_first : List ℕ → ℕ → List ℕ
without_first w k =
    let at = schedulers_at + scheduler_length * k in
    let n = get_or w at 0 in
    when eqb n 0 then w else
    when ltb most_threads n then w else
    set (pasted w (at + 1) (shifted (part w (at + 1) n)) n) at (n - 1)

-- entry e stands at the end of the next list of scheduler k; 64 are its space
unfoldable pub with_last : List ℕ → ℕ → ℕ → List ℕ
with_last w k e =
    let at = next_list_at + scheduler_length * k in
    when ltb (get_or w at 0) most_threads
    then set (set w (at + 1 + get_or w at 0) e) at (get_or w at 0 + 1)
    else w

-- ---- entries that become active

-- the entry x awaits event e
unfoldable pub is_awaiting_word : ℕ → ℕ → Bool
is_awaiting_word e x =
    when ltb x awaiting_from then false else eqb ((x - awaiting_from) / waiting_factor) e

-- those that the code is told to move
abbrev pub is_wanted : Wanted → ℕ → Bool
is_wanted (Ready living) x = is_ready_by living x
is_wanted (Awaiting e) x = is_awaiting_word e x

-- of the entries, the threads of those that pass the test, and the others
unfoldable pub wanted_words : (ℕ → Bool) → List ℕ → List ℕ
wanted_words test [] = []
wanted_words test (x ∷ xs) = keep_if (test x) (x % waiting_factor) (wanted_words test xs)

unfoldable pub other_words : (ℕ → Bool) → List ℕ → List ℕ
other_words test [] = []
other_words test (x ∷ xs) = keep_if (not (test x)) x (other_words test xs)

-- the entries of the next list after the active list at that place, partitioned: the threads of
-- those that pass the test after its n threads, and in their own space the others, then 0
unfoldable pub partitioned_in : (ℕ → Bool) → List ℕ → ℕ → ℕ → List ℕ
partitioned_in test w at n =
    let es = words_at w (at + list_length) in
    let m = get_or w (at + list_length) 0 in
    pasted (pasted w (at + 1 + n) (wanted_words test es) (length (wanted_words test es)))
    (at + list_length + 1) (padded m (other_words test es)) m

-- scheduler k's entries that pass the test have become active, after those that were; the others
-- stay
unfoldable pub with_moved : (ℕ → Bool) → List ℕ → ℕ → List ℕ
with_moved test w k =
    let at = schedulers_at + scheduler_length * k in
    let n = get_or w at 0 in
    let es = words_at w (next_list_at + scheduler_length * k) in
    set (set (partitioned_in test w at n) at (n + length (wanted_words test es)))
    (next_list_at + scheduler_length * k) (length (other_words test es))

-- the ready ones, where an instant ends
abbrev pub ready_words : List ℕ → List ℕ → List ℕ
ready_words w es = wanted_words (is_ready_word w) es

abbrev pub with_instant_ended : List ℕ → ℕ → List ℕ
with_instant_ended w k = with_moved (is_ready_word w) w k

-- those that await event e, where it is generated
abbrev pub with_woken : List ℕ → ℕ → ℕ → List ℕ
with_woken w k e = with_moved (is_awaiting_word e) w k

-- how many threads are active where scheduler k's entries that pass the test have become so
abbrev pub active_with : (ℕ → Bool) → List ℕ → ℕ → ℕ
active_with test w k =
    get_or w (schedulers_at + scheduler_length * k) 0
    + length (wanted_words test (words_at w (next_list_at + scheduler_length * k)))

-- what a caller has to show: no more threads than there may be, and the list at that place within its
-- space
abbrev pub ListWords : List ℕ → ℕ → Type 0
ListWords w at =
    (get_or w thread_count_at 0 ≤ most_threads) × (get_or w at 0 ≤ most_threads)

-- the lists are within their spaces, and there are no more threads than there may be
pub record ListsFit (w : List ℕ) : Type 0 where
  pub threads : get_or w thread_count_at 0 ≤ most_threads
  pub active : (k : ℕ) → k < most_schedulers
      → get_or w (schedulers_at + scheduler_length * k) 0 ≤ most_threads
  pub next : (k : ℕ) → k < most_schedulers
      → get_or w (next_list_at + scheduler_length * k) 0 ≤ most_threads
