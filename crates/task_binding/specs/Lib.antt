pub mod Bindings
pub mod GroupCounts
