-- One file a command: its reasons, counts, next state and follow-ups.
pub mod Cpus
pub mod Drop
pub mod Flush
pub mod Mkdir
pub mod Mode
pub mod Reads
pub mod Rmdir
pub mod Schemata
pub mod Tasks
pub mod Threshold
pub mod Tick
pub mod Touch
pub mod Write
