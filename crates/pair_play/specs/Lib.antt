pub mod Histories
pub mod Playing
pub mod SideTags
pub mod SoFar
