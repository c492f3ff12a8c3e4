pub mod Given
pub mod Lettered
pub mod Checks
pub mod Joined
pub mod Listed
