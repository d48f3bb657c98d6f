-- Lemmas that crates above cite.
pub mod TaskLists
pub mod TaskRanges
pub mod Uses
