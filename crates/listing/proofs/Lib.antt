-- Digits, and lines.
pub mod DigitLaws
pub mod LineLaws
-- choices.txt: what its bytes are, and how the code judges and reads them.
pub mod ChoicesAt
pub mod ChoiceLaws
-- How many choices a run uses.
pub mod Allowances
