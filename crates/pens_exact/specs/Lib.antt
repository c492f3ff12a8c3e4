pub mod Cut
pub mod Nights
pub mod Fields
pub mod Across
