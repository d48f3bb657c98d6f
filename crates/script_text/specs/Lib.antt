pub mod States
pub mod Kinds
pub mod Meaning
pub mod Reading
pub mod Table
pub mod Usual
