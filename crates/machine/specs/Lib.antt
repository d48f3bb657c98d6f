pub mod CpuTables
pub mod Maps
pub mod Ranges
pub mod Slices
