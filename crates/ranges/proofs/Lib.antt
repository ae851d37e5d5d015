-- Each word's test; then lists, blocks and the whole.
pub mod RangeLaws
pub mod BlockLaws
