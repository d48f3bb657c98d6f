pub mod EntryTexts
pub mod Pieces
pub mod Results
