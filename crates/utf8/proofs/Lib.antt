mod Leads
pub mod Reading
mod Judging
pub mod Encoding
mod Examples
