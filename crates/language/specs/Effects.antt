-- 'An effect is a set of schedulers.' 02, change 5, of K 1A and 1B: 'both have the owner as
-- effect'. The schedulers whose cells are accessed and those whose events are, are kept apart: two
-- sets. A set is a number below 256: the scheduler p is a member where bit p - 2 is set. What they
-- mean as sets is proved in proofs/Members.
use Rattle.std.specs.Prelude.{◌&&◌, ◌||◌, ◌-◌, ◌/◌, ◌%◌, ◌^◌}
use Rattle.basics.specs.Prelude.{List, Bool, ℕ, zero, suc, leb}
use Rattle.basics.specs.Prelude.{eqb, bit_or, when◌then◌else◌}
use Rattle.language.specs.{Places.home, Places.is_scheduler, Limits.most_schedulers}
use Rattle.language.specs.{Groups.Link, Groups.in_step, declared.effect.Effect.Effect}

-- the scheduler p is a member of the set s; the set {p}
abbrev pub member : ℕ → ℕ → Bool
member p s = leb home p && eqb (s / 2 ^ (p - home) % 2) 1

abbrev pub only : ℕ → ℕ
only p = 2 ^ (p - home)

-- both sets empty
abbrev pub no_effect : Effect
no_effect = record { cells = 0; events = 0 }

infixl 60 ◌∪◌
-- 'A frame joins its children's effects.'
abbrev pub ◌∪◌ : Effect → Effect → Effect
◌∪◌ e f =
    record { cells = bit_or e.cells f.cells; events = bit_or e.events f.events }

-- '.. add the cell's owner if it is a scheduler', and that of an event
unfoldable pub with_member : ℕ → ℕ → ℕ
with_member o s = when is_scheduler o then bit_or s (only o) else s

abbrev pub with_owner : ℕ → Effect → Effect
with_owner o e = record { cells = with_member o e.cells; events = e.events }

abbrev pub with_event : ℕ → Effect → Effect
with_event o e = record { cells = e.cells; events = with_member o e.events }

-- 'within {S}, or empty when S is 1': of the set of cells' owners
unfoldable pub set_within : ℕ → ℕ → Bool
set_within p s = eqb s 0 || is_scheduler p && eqb s (only p)

-- of n schedulers from q on, the set of those that pass the test
unfoldable pub set_from : (ℕ → Bool) → ℕ → ℕ → ℕ
set_from test q zero = 0
set_from test q (suc n) =
    when test q then with_member q (set_from test (suc q) n) else set_from test (suc q) n

-- the schedulers in step with p; none where it is no scheduler
unfoldable pub group_of : List Link → ℕ → ℕ
group_of ls p = when is_scheduler p then set_from (in_step ls p) home most_schedulers else 0

-- each member of the set s is one of g
abbrev pub subset : ℕ → ℕ → Bool
subset s g = eqb (bit_or s g) g

-- 02, change 7: 'Event effects are now counted apart from cell effects: at K 12 and at `main` an
-- event's owner must be the place or in step with it'
unfoldable pub within : List Link → ℕ → Effect → Bool
within ls p e = set_within p e.cells && subset e.events (group_of ls p)
