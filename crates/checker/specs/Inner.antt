pub mod Frames
pub mod Settings
