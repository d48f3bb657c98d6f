pub mod CountedDomains
pub mod EntryTexts
pub mod Floats
pub mod GroupTexts
pub mod JsonPositions
pub mod Objects
pub mod Positions
pub mod laws
