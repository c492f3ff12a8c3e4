pub mod Watched
pub mod Code
