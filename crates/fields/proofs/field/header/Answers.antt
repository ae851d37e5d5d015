-- `header` meets its contract.
use Rattle.fields.proofs.FieldLaws.{header_faults}
use Rattle.fields.proofs.field.header.Goals as goal
use Rattle.fields.proofs.field.header.Goals.{else-header_fine-via-then-header_fine+else-count_events-from, else-header_fine-via-else-header_fine}

pub returns-then-count_events-from : goal.returns-then-count_events-from
returns-then-count_events-from c = search header_faults

pub returns-else-header_fine : goal.returns-else-header_fine
returns-else-header_fine c = elim c.else-header_fine.branch [
  | else-header_fine-via-then-header_fine+else-count_events-from w ↦ search header_faults
  | else-header_fine-via-else-header_fine w ↦ search header_faults
]
