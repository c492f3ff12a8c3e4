pub mod Keyed
pub mod Guesses
pub mod Spelling
