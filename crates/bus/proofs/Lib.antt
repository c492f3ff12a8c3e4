pub mod Kept
pub mod Touched
pub mod Spared
