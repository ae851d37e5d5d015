-- Places.
pub mod PlaceLaws
-- Type words: what the functions compute, what a cell's type means.
pub mod Words
pub mod Cells
-- Schedulers in step.
pub mod Labels
pub mod LabelLaws
-- Effects: what the functions compute, what that means for the sets.
pub mod EffectLaws
pub mod Members
-- Refusals.
pub mod VerdictLaws
