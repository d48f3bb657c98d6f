pub mod EqualWays
pub mod LowestEmpty
pub mod LowestWay
pub mod WayWords
