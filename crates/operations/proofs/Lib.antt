-- The code, by words: single words, what an else branch is told, the parts of a state's words, one
-- operation after another, the operations, numbers and truths that are wanted.
pub mod WordLaws
pub mod Told
pub mod HeapLaws
pub mod InState
pub mod Chains
pub mod Operations
pub mod Operands
