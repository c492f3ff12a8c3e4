pub mod Listed
pub mod Places
pub mod Raising
