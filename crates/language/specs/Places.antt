-- 'Private is 1, home is 2, and the last scheduler is 9; a file has 2 to 1+B.'
use Rattle.std.specs.Prelude.{◌&&◌, ◌+◌}
use Rattle.basics.specs.Prelude.{Bool, ℕ, leb, eqb, when◌then◌else◌}

abbrev pub private : ℕ
private = 1

abbrev pub home : ℕ
home = 2

abbrev pub last_scheduler : ℕ
last_scheduler = 9

-- the numbers that name a place, and those that name a scheduler
abbrev pub is_place : ℕ → Bool
is_place p = leb private p && leb p last_scheduler

abbrev pub is_scheduler : ℕ → Bool
is_scheduler p = leb home p && leb p last_scheduler

-- p is a place, and a scheduler, of a file with b schedulers: 'a file has 2 to 1+B'
abbrev pub has_place : ℕ → ℕ → Bool
has_place b p = is_place p && leb p (1 + b)

abbrev pub has_scheduler : ℕ → ℕ → Bool
has_scheduler b p = is_scheduler p && leb p (1 + b)

-- How a statement stands: linked to a scheduler, or unlinked (01: loose)
pub data Standing : Type 0 where
  linked unlinked : Standing

-- how A stands in 'do A at place p': 'A thread at place 1 is loose'
unfoldable pub standing_at : ℕ → Standing
standing_at p = when eqb p private then unlinked else linked
