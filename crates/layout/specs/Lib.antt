pub mod Verdicts
pub mod Order
pub mod Uses
pub mod Depths
pub mod Faults
pub mod LaidOut
pub mod Inner
