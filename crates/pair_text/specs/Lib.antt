pub mod Kinds
pub mod PairKeys
pub mod PairLaws
pub mod PairLines
pub mod PairPaths
pub mod PairReading
pub mod Readers
pub mod Values
