-- ---- the definitions: what Scans computes is the first fault of Faults
pub mod Searches
pub mod Trees
pub mod Disorder
pub mod Order
pub mod Depths
pub mod Layouts
-- ---- what a file without fault has
pub mod Placed
pub mod Decoded
pub mod Parts
pub mod Scopes
pub mod SharedCells
pub mod Events
pub mod Links
pub mod Users
-- ---- the code: its passes over a text's lines find what Scans computes
pub mod DisorderPass
pub mod UseCounts
pub mod LeftoverPass
pub mod OrderPass
pub mod Raises
pub mod DepthArray
pub mod DepthPass
pub mod Answers
pub mod Judged
pub mod AfterLayout
