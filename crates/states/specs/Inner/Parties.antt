-- The code's test for an unlinked thread, in the words. No reader has to believe it: on words that
-- say a state it is `is_unlinked` of the state (proofs/PartyLaws). Assumes nothing: definitions.
use Rattle.std.specs.Prelude.{List, Bool, not, ◌&&◌, ℕ, ◌+◌, ◌-◌, ◌*◌, leb, eqb, get_or}
use Rattle.language.specs.Places.{private}
use Rattle.machine.specs.Offsets.{thread_count_at, threads_at, thread_length, lives_field}
use Rattle.machine.specs.Offsets.{thread_owner_from}
use Rattle.machine.specs.State.{thread_owner}

-- thread k, from 0, stands on 1 and lives
abbrev pub is_unlinked_thread : List ℕ → ℕ → Bool
is_unlinked_thread w k =
    eqb (get_or w (threads_at + thread_length * k) 0) private
    && not (eqb (get_or w (threads_at + thread_length * k + lives_field) 0) 0)

-- the choice c names a thread, which stands on 1 and lives
unfoldable pub is_unlinked_word : List ℕ → ℕ → Bool
is_unlinked_word w c =
    leb (thread_owner 1) c && leb (c - thread_owner_from) (get_or w thread_count_at 0)
    && eqb (get_or w (threads_at + thread_length * (c - thread_owner 1)) 0) private
    && not (eqb (get_or w (threads_at + thread_length * (c - thread_owner 1) + lives_field) 0) 0)
