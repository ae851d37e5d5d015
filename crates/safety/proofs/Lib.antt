-- The proof of demand 3, in the order in which it is to be read. The statement is in specs/Safety
-- (of steps) and specs/Accepted (of accepted texts, and of calls). 1. The invariant. Types at a
-- place; values and cells that have their types in a thread's eyes; good states.
pub mod Typing
pub mod Heap
pub mod Threads
pub mod Invariant
-- 2. Its preservation. A typed expression is neither foreign nor stuck; nor is any choice on a good
-- state, which leaves a good state: one case for each statement.
pub mod Evaluates
pub mod Preservation
-- 3. Demand 3 of every typed program, by induction on the list of choices. That no access is to
-- another's cell or event follows from no choice being foreign.
pub mod Accesses
pub mod Demand3
-- 4. What the rules give. Well-formed type words; the rules' typing as typing at a place, the heart
-- of it; the shared cells; so every accepted file is typed.
pub mod TypeWords
pub mod Places
pub mod SharedCells
pub mod TypedFiles
-- 5. The end: every accepted text is safe, as steps and as calls.
pub mod Accepted
pub mod Instances
