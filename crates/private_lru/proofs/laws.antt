-- Lemmas that crates above cite.
pub mod AloneEntries
pub mod CoveredAccesses
pub mod CoveredHits
pub mod EntryExtents
pub mod EntryFloors
pub mod Extents
pub mod FirstPlaces
pub mod LastEpochs
pub mod LoadedWays
pub mod LongerSpans
pub mod SliceWindows
