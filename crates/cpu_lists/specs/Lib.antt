pub mod Collected
pub mod Lists
pub mod Masks
pub mod Printed
pub mod Sets
