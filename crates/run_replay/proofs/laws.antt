pub mod Playbacks
pub mod Steps
