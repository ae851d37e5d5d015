pub mod Trees
pub mod Programs
pub mod Inner
