-- Threads: as a struct, as the state's thread, changed where their words lie.
pub mod Store
pub mod ThreadSays
pub mod ThreadLaws
pub mod StackLaws
pub mod StackWords
-- Events.
pub mod EventLaws
-- Unlinked threads.
pub mod PartyLaws
-- The fresh state: its parts, and the whole.
pub mod FreshLaws
pub mod SharedLaws
pub mod FreshWords
