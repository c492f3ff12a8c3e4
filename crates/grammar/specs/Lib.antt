pub mod Line
pub mod Grammar
pub mod Code
