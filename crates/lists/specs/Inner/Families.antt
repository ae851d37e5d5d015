-- The ready test in the words, and the sets of threads by which the code makes it. No reader has to
-- believe it: on words that say a state it is the rules' test (proofs/Instants). Assumes nothing:
-- definitions.
use Rattle.std.specs.Prelude.{◌≡◌, List, Bool, true, not, ◌&&◌, ◌||◌, ℕ, zero, suc, ◌+◌, ◌-◌, ◌*◌, ◌/◌, ◌%◌, ◌^◌, ltb, eqb, get_or}
use Rattle.basics.specs.If.{when◌then◌else◌}
use Rattle.language.specs.Limits.{most_threads}
use Rattle.machine.specs.Offsets.{thread_count_at, threads_at, thread_length, starter_field, lives_field}
use Rattle.machine.specs.Offsets.{waiting_factor, awaiting_from}
use Rattle.machine.specs.Shapes.{IsThread}
use Rattle.machine.specs.Inner.Families.{family_to, family_steps}
use Rattle.machine.specs.Inner.Ranges.{all_below, thread_in_range}

-- ---- in the words

-- the starter of thread t; 0 where there is no space for such a thread
unfoldable pub starter_in : List ℕ → ℕ → ℕ
starter_in w zero = 0
starter_in w (suc k) =
    when ltb k most_threads then get_or w (threads_at + thread_length * k + starter_field) 0 else 0

-- thread t is of the family of u
abbrev pub is_of_family : List ℕ → ℕ → ℕ → Bool
is_of_family w u t = family_to (family_steps most_threads) (starter_in w) u t

-- a wait for thread u awaits thread k, from 0: it has not ended, and is of the family of u
unfoldable pub is_awaited : List ℕ → ℕ → ℕ → Bool
is_awaited w u k =
    not (eqb (get_or w (threads_at + thread_length * k + lives_field) 0) 0) && is_of_family w u (suc k)

-- it awaits none of the first n threads
unfoldable pub none_awaited : List ℕ → ℕ → ℕ → Bool
none_awaited w u n = all_below n (λ k. not (is_awaited w u k))

-- the entry e is ready
unfoldable pub is_ready_word : List ℕ → ℕ → Bool
is_ready_word w e =
    when ltb e waiting_factor then true else
    when ltb e awaiting_from
    then thread_in_range (e / waiting_factor)
    && none_awaited w (e / waiting_factor) (get_or w thread_count_at 0) else
    true

-- ---- by sets

-- thread t is a member of the set
unfoldable pub has_thread : ℕ → ℕ → Bool
has_thread set t = eqb (set / 2 ^ (t - 1) % 2) 1

-- t is a thread's number, and no member
unfoldable pub lacks_thread : ℕ → ℕ → Bool
lacks_thread set t = thread_in_range t && not (has_thread set t)

-- with each member the set has the thread that began it
abbrev pub HasStarters : List ℕ → ℕ → Type 0
HasStarters w set =
    (x : ℕ) → IsThread x → has_thread set x ≡ true → IsThread (starter_in w x)
    → has_thread set (starter_in w x) ≡ true

-- r is the set and each thread of whose family t is
abbrev pub AddsAncestors : List ℕ → ℕ → ℕ → ℕ → Type 0
AddsAncestors w set t r =
    (u : ℕ) → IsThread u → has_thread r u ≡ (has_thread set u || is_of_family w u t)

-- r is the set and each thread for which a wait awaits thread k, from 0
abbrev pub AddsAwaited : List ℕ → ℕ → ℕ → ℕ → Type 0
AddsAwaited w set k r =
    (u : ℕ) → IsThread u → has_thread r u ≡ (has_thread set u || is_awaited w u k)

-- the set of those of whose families one of the first n threads lives; and of all threads
abbrev pub LivingTo : List ℕ → ℕ → ℕ → Type 0
LivingTo w n set = (u : ℕ) → IsThread u → has_thread set u ≡ not (none_awaited w u n)

abbrev pub LivingFamilies : List ℕ → ℕ → Type 0
LivingFamilies w set = LivingTo w (get_or w thread_count_at 0) set

-- the entry e is ready, where `living` is that set
unfoldable pub is_ready_by : ℕ → ℕ → Bool
is_ready_by living e =
    when ltb e waiting_factor then true else
    when ltb e awaiting_from then lacks_thread living (e / waiting_factor) else
    true
