pub mod Beginnings
pub mod Codes
pub mod Endings
pub mod Feeding
pub mod Outside
pub mod Passing
pub mod Performing
pub mod Within
