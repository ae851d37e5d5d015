pub mod FrameTests
pub mod Climbs
pub mod Walks
