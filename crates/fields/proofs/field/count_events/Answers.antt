-- `count_events` meets its contract.
use borrow.Author.Rules.{rules}
use Rattle.fields.proofs.Events.{count_start, count_event, count_other, count_end}
use Rattle.fields.proofs.field.count_events.Goals as goal
use Rattle.fields.proofs.field.count_events.Goals.{then-line_declares, else-line_declares}

pub loop-line-init : goal.loop-line-init
loop-line-init c = (search rules, count_start _)

pub loop-line-preserved : goal.loop-line-preserved
loop-line-preserved c = elim c.if-line_declares.branch [
  | then-line_declares w ↦ rw w.n-is (search rules, search count_event)
  | else-line_declares w ↦ rw w.n-is (search rules, search count_other)
]

pub returns : goal.returns
returns c = search count_end
