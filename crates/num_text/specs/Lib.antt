pub mod Blanks
pub mod Numbers
pub mod Printed
pub mod Signs
