-- Lemmas that crates above cite.
pub mod JoinedCounts
pub mod JointUsedWindows
pub mod Listings
pub mod RisingEpochs
pub mod RisingGroups
pub mod ShortLists
pub mod UsedWindows
pub mod WindowFronts
