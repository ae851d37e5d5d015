-- 21: a child that there is not, a frame used twice; then cycles: marks as bits, the walk down from
-- a frame, what it reaches.
pub mod AnyChild
pub mod ChildLoops
pub mod TreePass
pub mod MarkBits
pub mod CycleWalk
pub mod CycleReach
-- The writer's 6.
pub mod ShapeTests
pub mod ShapePass
-- 7: the users, and the climb from user to user.
pub mod UserArray
pub mod Climbing
pub mod ClimbDepths
-- The verdict.
pub mod FormAnswers
