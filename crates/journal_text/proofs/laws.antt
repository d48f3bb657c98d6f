-- Lemmas that crates above cite.
pub mod CommandLines
pub mod EntryLines
pub mod Fields
pub mod FirstWords
pub mod Newlines
pub mod SliceLines
pub mod Taken
pub mod Texts
pub mod Values
pub mod Words
