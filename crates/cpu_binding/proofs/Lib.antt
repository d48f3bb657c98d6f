pub mod Changes
pub mod Members
