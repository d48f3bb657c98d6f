-- Lemmas that crates above cite.
pub mod FilteredTexts
pub mod FirstLines
