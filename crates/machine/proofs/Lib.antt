-- Tests and lists.
pub mod Tests
pub mod Lists
-- The cells in use; what each operation on a cell gives, changes and logs.
pub mod UsedCells
pub mod Primitives
-- The ready test finds the whole family.
pub mod Families
-- What is done on each member of a group.
pub mod GroupLaws
-- Without links each choice gives what it gave before change 7.
pub mod Alone
-- Whose cells are accessed: by an evaluation, by a choice; and that a refused choice leaves the
-- state. What a choice can answer.
pub mod Owns
pub mod Fair
pub mod Numbers
-- How many accesses an evaluation has, and how many cells it leaves.
pub mod FewAccesses
pub mod StepAccesses
-- What a choice does to the threads: the acting one, by its top item, and one that it starts.
pub mod Taken
-- Why nothing is ever full (20) from a fresh state on: lists; continuations and variables; the
-- depth of bodies; so each choice is as in spaces without end.
pub mod Space
pub mod Continuations
pub mod Depth
pub mod NeverFull
-- The words of a state, and a block of them replaced.
pub mod Regions
pub mod WordLaws
pub mod Blocks
pub mod Padded
pub mod PastedLaws
pub mod ValueWords
-- States in shape and words in range: from a state to its words and back, from words to their state
-- and back, and the one from the other.
pub mod Round
pub mod Ranges
pub mod AllBelow
pub mod Alls
pub mod BlockParts
pub mod Valid
pub mod InShape
-- Each choice keeps a state in shape, so the calls on words are the steps.
pub mod KeptCells
pub mod KeptShape
pub mod Calls
pub mod CallRuns
