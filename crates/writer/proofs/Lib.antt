-- The fields of a line.
pub mod FieldLaws
-- The buffer, and a line in it.
pub mod Buffers
pub mod LineDigits
-- A tree.
pub mod TreeLines
-- A whole file.
pub mod Roots
-- The answer.
pub mod Arranges
