pub mod FirstLine
pub mod SlotOps
pub mod Threads
pub mod laws
