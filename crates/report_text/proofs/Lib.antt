pub mod CommandLines
pub mod CountTexts
pub mod DomainCounts
pub mod GroupLines
pub mod SliceTexts
pub mod laws
