pub mod Groups
pub mod Sets
