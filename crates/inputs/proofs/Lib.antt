pub mod Taking
