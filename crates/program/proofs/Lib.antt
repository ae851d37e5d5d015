-- Trees: their roots, and the tree at a frame from those at its children.
pub mod Roots
pub mod Decoding
-- Shared cells and modules.
pub mod OneMore
-- Frames taken apart: a frame of a text, the children in its fields, its node.
pub mod FrameLaws
pub mod ChildFolds
pub mod NodeLaws
pub mod NodeTrees
-- Modules and events by number, main's body, the shared cells counted, their types.
pub mod MainLaws
pub mod NumberedLaws
pub mod ModuleLaws
pub mod EventLaws
pub mod SharedLaws
pub mod SharedTypeLaws
-- Declarations told by their K, and schedulers in step.
pub mod LinkLaws
