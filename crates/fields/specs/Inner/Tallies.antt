-- What the pass of 5 counts of the frames passed. Assumes nothing: definitions.
use Rattle.std.specs.Prelude.{List, ℕ}
use Rattle.language.specs.Kinds.{is_module}
use Rattle.language.specs.declared.frame.Frame.{Frame}
use Rattle.program.specs.Programs.{cells_of}
use Rattle.fields.specs.Fields.{count_of}

-- the types of the shared cells, and how many are modules
pub record Counted : Type 0 where
  pub types : List ℕ
  pub modules : ℕ

abbrev pub tallied : List ℕ → ℕ → Counted
tallied ts m = record { types = ts; modules = m }

unfoldable pub tally_of : List Frame → Counted
tally_of fs = tallied (cells_of fs) (count_of is_module fs)
