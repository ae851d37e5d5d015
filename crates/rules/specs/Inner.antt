pub mod Findings
pub mod Checking
pub mod NodeRules
pub mod Standings
pub mod Signatures
