pub mod Word
pub mod Memory
pub mod Bits
pub mod Signed
