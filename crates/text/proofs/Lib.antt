pub mod Operands
pub mod Fitting
pub mod KeyTexts
pub mod Returning
pub mod Unique
