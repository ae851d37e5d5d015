pub mod Fields
pub mod Placing
