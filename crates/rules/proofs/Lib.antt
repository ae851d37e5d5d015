-- The definitions: what Checking computes is what the rules give, and of what is broken the first.
-- Expressions, statements, modules.
pub mod Lists
pub mod Expressions
pub mod Statements
pub mod Ranges
pub mod Sooner
pub mod FirstExpressions
pub mod FirstStatements
pub mod Modules
-- The code: what its calls answer.
pub mod RuleLaws
pub mod StartLaws
