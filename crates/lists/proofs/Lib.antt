-- In the words: sets of threads, the climb from starter to starter, the ready test; a list changed,
-- entries partitioned.
pub mod ThreadSets
pub mod Climbs
pub mod WaitLaws
pub mod ListLaws
pub mod PartitionLaws
pub mod MovedLaws
-- The same of the state that the words say: lists, and the end of an instant.
pub mod SchedulerSays
pub mod Instants
