-- The word that counts the cells: within a turn it counts the accesses too, above its low 16 bits.
-- So no other word is lent to an evaluation, and no function of its recursion has more to pass on.
-- No reader has to believe it. Assumes nothing: definitions.
use Rattle.std.specs.Prelude.{ℕ, ◌+◌, ◌*◌, ◌/◌, ◌%◌, ◌^◌}
use Rattle.machine.specs.declared.value.Outcome.{Outcome}
use Rattle.machine.specs.declared.value.Outcome.TheVariants.{Is, Foreign, Spent, Stuck}

-- what one access adds
abbrev pub access_factor : ℕ
access_factor = 2 ^ 16

-- as many accesses have room above the count of cells
abbrev pub most_accesses : ℕ
most_accesses = 2 ^ 48

-- how many cells are in use, and how many accesses there were
unfoldable pub cells_in : ℕ → ℕ
cells_in h = h % access_factor

unfoldable pub accesses_in : ℕ → ℕ
accesses_in h = h / access_factor

-- the word of both
unfoldable pub heap_word : ℕ → ℕ → ℕ
heap_word cells accesses = cells + access_factor * (accesses % most_accesses)

-- one access more; and with it a cell. They wrap at 64 bits, which no turn comes to
unfoldable pub with_access : ℕ → ℕ
with_access h = (h + access_factor) % 2 ^ 64

unfoldable pub with_cell : ℕ → ℕ
with_cell h = (h + (access_factor + 1)) % 2 ^ 64

-- after an access that came to that: a cell that is not there is none
abbrev pub accessed : Outcome → ℕ → ℕ
accessed (Is v) h = with_access h
accessed Foreign h = with_access h
accessed Spent h = with_access h
accessed Stuck h = h
