pub mod Digits
pub mod Bitwise
pub mod Shifts
mod Reverse
pub mod Raised
pub mod Width
