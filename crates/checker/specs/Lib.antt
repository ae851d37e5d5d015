pub mod Verdict
pub mod Inner
