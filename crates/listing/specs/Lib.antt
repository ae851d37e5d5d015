pub mod Listing
pub mod inner
