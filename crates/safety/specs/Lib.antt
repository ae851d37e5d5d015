pub mod Safety
pub mod Accepted
pub mod Inner
