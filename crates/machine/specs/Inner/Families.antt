-- The ready test as a function: it computes what Waits says of a family (proofs/Families). Assumes
-- nothing: definitions.
use Rattle.std.specs.Prelude.{List, [], ◌∷◌, Bool, true, not, ◌&&◌, ◌||◌, ℕ, zero, suc, eqb, length}
use Rattle.machine.specs.State.{Thread, Entry, plain, waiting, awaiting, starter_of}

-- thread t is u, or one comes from t to u over at most k starters; f tells by whom each was begun
unfoldable pub family_to : ℕ → (ℕ → ℕ) → ℕ → ℕ → Bool
family_to zero f u t = eqb t u
family_to (suc k) f u t = eqb t u || family_to k f u (f t)

-- how many steps find all where only threads up to n have a starter: over these, over a number that
-- is no thread's, and to 0, from where nothing is new
abbrev pub family_steps : ℕ → ℕ
family_steps n = suc (suc (suc n))

unfoldable pub in_family : List Thread → ℕ → ℕ → Bool
in_family ts u t = family_to (family_steps (length ts)) (starter_of ts) u t

-- each of the threads, which count from t, has ended or is none of which the test holds
unfoldable pub ended_from : (ℕ → Bool) → ℕ → List Thread → Bool
ended_from test t [] = true
ended_from test t (x ∷ xs) = (x.ended || not (test t)) && ended_from test (suc t) xs

unfoldable pub is_ready : List Thread → Entry → Bool
is_ready ts (plain t) = true
is_ready ts (waiting t u) = ended_from (in_family ts u) 1 ts
is_ready ts (awaiting t e) = true
