pub mod Makings
pub mod Wholes
pub mod Examples
