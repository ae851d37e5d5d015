-- Digits.
pub mod DigitLaws
-- The definition of a reading, and the function that computes it.
pub mod Readings
-- The code: a line, a line as a step of the scan, the whole text, the frame of an index.
pub mod LineLaws
pub mod LineScan
pub mod ReadLaws
pub mod FrameLaws
-- Frames as numbers, for the crates after.
pub mod FrameWords
