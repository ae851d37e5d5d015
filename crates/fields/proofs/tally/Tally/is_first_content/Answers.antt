-- `is_first_content` meets its contract.
use mathlib.Core.Path.{sym}
use Rattle.fields.proofs.FieldLaws.{content_cell}
use Rattle.fields.proofs.tally.Tally.is_first_content.Goals as goal

pub returns-then-j-self : goal.returns-then-j-self
returns-then-j-self c = rw (sym c.self.view_is) (content_cell _ _ _ _ _ c.from-j.ensures _ c.is_cell.ensures c.if-is_cell.true c.if-j-self.true c.self.invariant.0 c.self.invariant.1)
