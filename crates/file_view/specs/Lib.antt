pub mod GroupFiles
pub mod Lines
pub mod Listings
pub mod MachineFiles
pub mod Texts
