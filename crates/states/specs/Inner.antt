pub mod Threads
pub mod Starts
pub mod Stacks
pub mod Parties
pub mod Events
