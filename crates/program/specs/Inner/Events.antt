-- An event as the code finds it. No reader has to believe it: crate checker shows that its verdict
-- is that of the rules, crate stepper that a turn committed is their step. Assumes nothing:
-- definitions.
use Rattle.std.specs.Prelude.{ℕ, Option, slice_get}
use Rattle.program.specs.Programs.{Program}

-- the owner of event e, if there is such an event
unfoldable pub event_in : Program → ℕ → Option ℕ
event_in p e = slice_get p.events e
