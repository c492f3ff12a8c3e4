pub mod Giving
pub mod Answering
pub mod Passed
