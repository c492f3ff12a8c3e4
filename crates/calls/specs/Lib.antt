pub mod Inputs
pub mod Calls
pub mod Code
