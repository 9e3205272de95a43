pub mod Bytes
pub mod Outputs
