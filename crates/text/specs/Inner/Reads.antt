-- What the reader's code answers: how many frames a text has, or its refusal. Assumes nothing:
-- definitions.
use Rattle.std.specs.Prelude.{ℕ, Result, Ok, Err}
use Rattle.language.specs.declared.refusal.Rule.{Rule}
use Rattle.language.specs.declared.refusal.Refusal.{Refusal}

abbrev pub TextRead : Type 0
TextRead = Result ℕ Refusal

pattern abbrev pub Frames : ℕ → TextRead
Frames n = Ok n

abbrev pub Refused : Rule → ℕ → TextRead
Refused n j = Err (record { rule = n; frame = j })
