pub mod Changes
pub mod Counted
pub mod GroupCounts
pub mod Membership
pub mod Order
pub mod Places
