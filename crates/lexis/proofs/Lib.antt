pub mod Figuring
pub mod Characters
