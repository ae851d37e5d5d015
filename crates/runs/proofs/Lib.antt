-- A run's listing: one choice more, the loop, all its lines, choices.txt, where it stops, the
-- listing of a text.
pub mod RunLoop
pub mod ListingLoop
pub mod ListedRun
pub mod JudgedChoices
pub mod Stops
pub mod TextListings
