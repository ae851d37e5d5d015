-- Which fields of a line hold a child, as the writer tells them. No reader has to believe it:
-- proofs/FieldLaws ties it to the trees. Assumes nothing: definitions.
use Rattle.std.specs.Prelude.{Bool, true, false, not, ℕ, ◌+◌, eqb}
use Rattle.basics.specs.If.{when◌then◌else◌}
use Rattle.language.specs.declared.kind.Use.{Use}
use Rattle.language.specs.declared.kind.Uses.{Uses}
use Rattle.drawing.specs.Drawings.{Drawn, Field, kept, child, size_in, value_from}
use Rattle.writer.specs.declared.child.Holds.{Holds}
use Rattle.writer.specs.declared.child.ChildFields.{ChildFields}
use Rattle.writer.specs.declared.emit.Placed.{Placed}

abbrev pub holds_of : Use → Holds
holds_of Use.Statement = Holds.Child
holds_of Use.Expression = Holds.Child
holds_of Use.Argument = Holds.Argument
holds_of Use.Further = Holds.Argument
holds_of Use.Unused = Holds.Kept
holds_of Use.Free = Holds.Kept
holds_of Use.Truth = Holds.Kept
holds_of Use.Place = Holds.Kept
holds_of Use.Scheduler = Holds.Kept
holds_of Use.Lower = Holds.Kept
holds_of Use.ContentType = Holds.Kept
holds_of Use.FirstContent = Holds.Kept
holds_of Use.Parameters = Holds.Kept
holds_of Use.FirstType = Holds.Kept
holds_of Use.SecondType = Holds.Kept

abbrev pub holding : Holds → Holds → Holds → ChildFields
holding a b c = record { a = a; b = b; c = c }

abbrev pub child_fields : Uses → ChildFields
child_fields u = holding (holds_of u.a) (holds_of u.b) (holds_of u.c)

-- a field that holds v names a child: an argument's 0 does not
abbrev pub names_child : Holds → ℕ → Bool
names_child Holds.Kept v = false
names_child Holds.Child v = true
names_child Holds.Argument v = not (eqb v 0)

-- the field in the line's tree
unfoldable pub field_by : (ℕ → Drawn) → Holds → ℕ → Field
field_by draw h v = when names_child h v then child (draw v) else kept v

-- what the new line holds in a field whose tree begins at line n, and the line after that tree
abbrev pub placed_from : ℕ → Field → Placed
placed_from n x = record { value = value_from n x; next = n + size_in x }
