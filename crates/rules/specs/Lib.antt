pub mod Rules
pub mod Breaks
pub mod Broken
pub mod Inner
