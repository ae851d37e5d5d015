pub mod RuleLaws
-- Words to rules: what a refused turn takes back, each change and each transition of a commit.
pub mod Grows
pub mod Commits
pub mod Transitions
pub mod StartTransitions
pub mod Groups
pub mod Signals
-- The turn: by the kind of its top item, then whole (`turn_is`).
pub mod Moves
pub mod Arguments
pub mod Variables
pub mod Items
pub mod Uses
pub mod Threads
pub mod Counted
-- What words in range give to each call of the code.
pub mod GoodWords
pub mod ActLaws
pub mod TurnLaws
pub mod InstantLaws
pub mod PartyLaws
-- The public calls: the file, the answer, many choices in one call.
pub mod FileLaws
pub mod AnswerLaws
pub mod BatchLaws
