pub mod Drawings
pub mod Texts
pub mod TreeFaults
pub mod Writings
pub mod Answers
pub mod Inner
