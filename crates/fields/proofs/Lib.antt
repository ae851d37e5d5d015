-- What a pass finds, and a pass that seeks the lowest frame.
pub mod Finds
pub mod Seeking
-- The header and a field; the shared cells, modules and events counted; the fields by kind; the
-- pass over the frames.
pub mod FieldLaws
pub mod Tallies
pub mod Events
pub mod FieldsByKind
pub mod FramePass
