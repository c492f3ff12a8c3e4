pub mod Passing
pub mod Cutting
pub mod Accepted
pub mod Nights
pub mod Single
pub mod Whole
pub mod Across
