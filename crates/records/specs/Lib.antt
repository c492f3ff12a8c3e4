pub mod Record
pub mod Code
