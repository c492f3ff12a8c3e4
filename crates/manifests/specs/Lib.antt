pub mod Manifests
pub mod Code
