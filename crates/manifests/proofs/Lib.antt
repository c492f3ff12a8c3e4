pub mod Lined
pub mod Heads
pub mod Named
mod Digits
mod Keys
mod Parts
