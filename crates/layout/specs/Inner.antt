pub mod Laid
pub mod Scans
pub mod Uses
pub mod Passes
pub mod Scope
pub mod Layouts
