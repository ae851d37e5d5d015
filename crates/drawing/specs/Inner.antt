pub mod Finds
pub mod Heights
