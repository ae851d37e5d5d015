-- What refusals 1 to 3 leave of a file, and what 4 to 7 leave of each frame.
pub mod Sizes
pub mod Passed
-- How many nodes its expressions have.
pub mod FewNodes
-- So of its trees, its shared cells, its modules.
pub mod Laid
pub mod Cells
pub mod Modules
-- So it fits the state's spaces.
pub mod Fits
-- So no list, continuation or variable space is ever full.
pub mod NeverFull
-- Without links it runs as before change 7.
pub mod Alone
