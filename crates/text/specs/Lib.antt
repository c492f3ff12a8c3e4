pub mod Answer
pub mod Listing
pub mod Assembling
pub mod Code
