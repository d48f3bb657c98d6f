pub mod Codes
pub mod Endings
pub mod Judgements
pub mod Performances
pub mod Statuses
