pub mod Families
pub mod Lists
