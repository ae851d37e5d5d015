pub mod LineNumbers
pub mod Counts
