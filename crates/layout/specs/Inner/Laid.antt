-- What the code answers that lays a text out: how many lines there are, or the refusal. Assumes
-- nothing: definitions.
use Rattle.std.specs.Prelude.{ℕ, Result, Ok}
use Rattle.language.specs.declared.refusal.Refusal.{Refusal}

abbrev pub Laid : Type 0
Laid = Result ℕ Refusal

pattern abbrev pub Lines : ℕ → Laid
Lines n = Ok n
