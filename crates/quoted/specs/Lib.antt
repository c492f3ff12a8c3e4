pub mod Quoted
pub mod Code
