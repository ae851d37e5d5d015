-- When an entry of a next list is ready. 02, change 3: 'A wait shall end when the started thread
-- and all threads begun by it, directly or through others, have ended, as source document 001 has
-- it.' 001, section 2: 'termination of thread t and of all its descendants (threads transitively
-- created by t) is required'.
use Rattle.std.specs.Prelude.{◌∷◌, ◌≡◌}
use Rattle.basics.specs.Prelude.{List, [], Bool, true, false, not, ℕ, eqb, keep_if}
use Rattle.machine.specs.State.{Thread, Entry, plain, waiting, awaiting, nth, starter_of}
use Rattle.machine.specs.Inner.Families.{is_ready}

-- `Family f u t`, where f tells by which thread each was begun: t is u, or was begun by one of the
-- family of u
pub data Family (f : ℕ → ℕ) (u : ℕ) : ℕ → Type 0 where
  itself : Family f u u
  begun : {t : ℕ} → Family f u (f t) → Family f u t

-- The ready test, the only place that says when a wait ends
pub data Ready (ts : List Thread) : Entry → Type 0 where
  no_wait : {t : ℕ} → Ready ts (plain t)
  all_ended : {t u : ℕ} → ((x : ℕ) → Family (starter_of ts) u x → (nth ts x).ended ≡ true)
      → Ready ts (waiting t u)
  -- 02, change 5: 'counts as ready and tries again when it is active'
  tries_again : {t e : ℕ} → Ready ts (awaiting t e)

-- `is_ready` computes it, whatever the threads, circles of starters included; proved in
-- proofs/Families
abbrev pub ReadyComputes : Type 0
ReadyComputes =
    (ts : List Thread) (e : Entry)
    → (is_ready ts e ≡ true → Ready ts e) × (Ready ts e → is_ready ts e ≡ true)

-- the thread of an entry
abbrev pub entry_thread : Entry → ℕ
entry_thread e = elim e [ plain t ↦ t | waiting t u ↦ t | awaiting t d ↦ t ]

-- the threads of the entries that pass the test, in order; and the entries that do not
unfoldable pub threads_where : (Entry → Bool) → List Entry → List ℕ
threads_where test [] = []
threads_where test (e ∷ es) = keep_if (test e) (entry_thread e) (threads_where test es)

unfoldable pub entries_except : (Entry → Bool) → List Entry → List Entry
entries_except test [] = []
entries_except test (e ∷ es) = keep_if (not (test e)) e (entries_except test es)

-- 'ready entries of the next list become active in order': their threads
abbrev pub ready_threads : List Thread → List Entry → List ℕ
ready_threads ts es = threads_where (is_ready ts) es

-- 'waiting ones stay'
abbrev pub still_waiting : List Thread → List Entry → List Entry
still_waiting ts es = entries_except (is_ready ts) es

-- the entry awaits event e
abbrev pub is_awaiting : ℕ → Entry → Bool
is_awaiting e x = elim x [ plain t ↦ false | waiting t u ↦ false | awaiting t d ↦ eqb d e ]
