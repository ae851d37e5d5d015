pub mod TextCalls
pub mod SafeListing
