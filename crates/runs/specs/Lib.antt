pub mod Listings
pub mod Inner
