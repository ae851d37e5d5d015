pub mod Digits
pub mod Frames
pub mod Reading
pub mod Inner
