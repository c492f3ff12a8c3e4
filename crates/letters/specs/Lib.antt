pub mod Lists
pub mod Letters
