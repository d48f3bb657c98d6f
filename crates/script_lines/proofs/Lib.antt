pub mod EscapedBytes
pub mod Lengths
pub mod TaskCounts
pub mod TaskOrder
pub mod TaskSearch
pub mod laws
