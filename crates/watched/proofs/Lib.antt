pub mod Answering
pub mod Bared
pub mod Beside
