-- What the code does to the events' words. No reader has to believe it: on words that say a state
-- it is what the rules do to the state (proofs/EventLaws). Assumes nothing: definitions.
use Rattle.std.specs.Prelude.{Bool, List, ℕ, zero, suc, ◌+◌, eqb, get_or, set}
use Rattle.basics.specs.If.{when◌then◌else◌}
use Rattle.machine.specs.Offsets.{events_at}

-- event e is not present
abbrev pub is_absent : List ℕ → ℕ → Bool
is_absent w e = eqb (get_or w (events_at + e) 0) 0

-- event e, of the owner o, is not present if o passes the test
unfoldable pub without_owned : (ℕ → Bool) → ℕ → List ℕ → ℕ → List ℕ
without_owned test o w e = when test o then set w (events_at + e) 0 else w

-- event e, of the owners os
abbrev pub without_event : (ℕ → Bool) → List ℕ → List ℕ → ℕ → List ℕ
without_event test os w e = without_owned test (get_or os e 0) w e

-- the first n events
unfoldable pub without_events : (ℕ → Bool) → List ℕ → List ℕ → ℕ → List ℕ
without_events test os w zero = w
without_events test os w (suc n) = without_event test os (without_events test os w n) n
