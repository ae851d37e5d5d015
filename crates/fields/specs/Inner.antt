pub mod Scans
pub mod Tallies
