-- The group of a scheduler: those in step with it, itself among them.
use Rattle.basics.specs.Prelude.{List, [], Bool, ℕ, zero, suc, keep_if}
use Rattle.language.specs.{Places.home, Groups.in_step}
use Rattle.program.specs.Programs.{Program}

-- of n schedulers from q on, by number, those that pass the test
unfoldable pub schedulers_where : (ℕ → Bool) → ℕ → ℕ → List ℕ
schedulers_where test q zero = []
schedulers_where test q (suc n) = keep_if (test q) q (schedulers_where test (suc q) n)

-- the members of c's group, by number
abbrev pub members : Program → ℕ → List ℕ
members p c = schedulers_where (in_step p.links c) home p.schedulers
