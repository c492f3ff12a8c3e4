pub mod State
pub mod Addresses
pub mod Good
pub mod Protected
