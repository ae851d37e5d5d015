pub mod Results
pub mod ByWords
