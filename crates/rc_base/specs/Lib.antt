pub mod Buffers
pub mod Faults
pub mod Follows
pub mod Gids
pub mod Reasons
pub mod Replies
pub mod Texts
