pub mod Turns
pub mod Beside
pub mod Dropped
