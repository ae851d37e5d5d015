-- The code, by words: one evaluation after another, the node at a frame, the recursion, the lent
-- state.
pub mod Chains
pub mod Nodes
pub mod Cases
pub mod InPlace
-- From words to the rules: words that hold cells, numbers that fit, and that the recursion gives
-- what `eval` gives.
pub mod Holding
pub mod SmallNumbers
pub mod Agreement
