pub mod Counts
pub mod Indices
pub mod Keys
pub mod Lists
pub mod Opening
pub mod Others
pub mod Records
