pub mod Changes
pub mod Kept
pub mod Kinds
pub mod Parts
pub mod Shares
pub mod Words
