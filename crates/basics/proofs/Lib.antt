pub mod Ifs
pub mod Bits
pub mod Closures
