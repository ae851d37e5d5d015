pub mod Families
pub mod Ranges
pub mod Blocks
pub mod Parts
