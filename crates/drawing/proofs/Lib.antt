-- A line and its fields; the lines of a tree are drawn as the tree.
pub mod Heights
pub mod Lines
pub mod Fields
pub mod Back
-- A file in order: its roots, their trees one after the other; it comes out as it was.
pub mod InOrder
pub mod Roots
pub mod Tiles
pub mod Depths
pub mod Whole
pub mod Bytes
-- The refusals computed: what is below a frame, the lowest faults, the one answer.
pub mod Cycles
pub mod FaultTests
pub mod Deep
pub mod Answers
-- The same trees: nothing is lost, and what is laid out is drawn as the file was.
pub mod Stable
pub mod Sums
pub mod Counted
pub mod Shapes
pub mod Output
pub mod ByRank
pub mod Writables
-- The output passes 1 to 7: main and the header, the bytes, and no fault 5.
pub mod Mains
pub mod Headers
pub mod Rereads
pub mod Origins
pub mod Picks
pub mod Earlier
pub mod Kept
-- The promises.
pub mod Ordered
pub mod Promises
