pub mod Prelude
pub mod If
pub mod Members
pub mod Chains
pub mod Inner
