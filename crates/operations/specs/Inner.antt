pub mod Lent
pub mod Heaps
pub mod Results
pub mod ByWords
