pub mod Utf8
pub mod Latin
pub mod Code
