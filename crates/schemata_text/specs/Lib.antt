pub mod Items
pub mod Printed
pub mod Reading
