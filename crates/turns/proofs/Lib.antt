-- The code: a law for each return of each function.
pub mod StayRows
pub mod MoveRows
pub mod AfterRows
pub mod StartRows
pub mod OperandLaws
pub mod StatementRows
pub mod ItemRows
-- The acts made in a thread are the turns of specs/Acts: single turns, and the whole turn.
pub mod PlainLaws
pub mod SeenLaws
pub mod StayLaws
pub mod MoveLaws
pub mod AfterLaws
pub mod StartLaws
pub mod TurnLaws
