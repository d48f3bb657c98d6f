pub mod DecimalPairs
pub mod Numerals
pub mod Prints
pub mod Searches
pub mod Trims
pub mod laws
