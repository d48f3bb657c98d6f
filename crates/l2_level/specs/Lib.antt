pub mod SoFar
pub mod Windows
