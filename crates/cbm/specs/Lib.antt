pub mod Gaps
pub mod Masks
pub mod Validity
