pub mod Letters
pub mod Usage
