pub mod Pen
pub mod Code
