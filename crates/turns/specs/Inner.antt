pub mod Acts
pub mod Actions
pub mod TurnCounts
