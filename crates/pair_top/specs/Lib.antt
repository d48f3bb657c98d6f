pub mod Endings
pub mod Forms
pub mod Ready
pub mod Refusals
pub mod Reports
