pub mod Instructions
pub mod Code
