-- `frame_fine` meets its contract.
use Rattle.fields.proofs.Tallies.{declared_as}
use Rattle.fields.proofs.FieldsByKind.{frame_header, frame_unknown}
use Rattle.fields.proofs.FieldsByKind.{frame_event, frame_link, frame_statement}
use Rattle.fields.proofs.FieldsByKind.{frame_expression}
use Rattle.fields.proofs.field.frame_fine.Goals as goal

pub returns-in-Header : goal.returns-in-Header
returns-in-Header c = search frame_header

pub returns-in-Declared-Event : goal.returns-in-Declared-Event
returns-in-Declared-Event c = frame_event _ _ _ _ c.frame_at-f.ensures (declared_as _ _ _ c.in-Declared-Event.is (rw c.in-Declared-Event.is at c.in-Declared-Event.field-0-is)) c.event_fine.ensures

pub returns-in-Declared-Link : goal.returns-in-Declared-Link
returns-in-Declared-Link c = frame_link _ _ _ _ c.frame_at-f.ensures (declared_as _ _ _ c.in-Declared-Link.is (rw c.in-Declared-Link.is at c.in-Declared-Link.field-0-is)) c.link_fine.ensures

pub returns-in-Statement : goal.returns-in-Statement
returns-in-Statement c = search frame_statement

pub returns-in-Expression : goal.returns-in-Expression
returns-in-Expression c = search frame_expression

pub returns-in-Unknown : goal.returns-in-Unknown
returns-in-Unknown c = search frame_unknown
