pub mod Bools
pub mod Scan
pub mod Reading
