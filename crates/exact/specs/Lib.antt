pub mod Demand3
pub mod Fields
pub mod Boundary3
pub mod Protected
