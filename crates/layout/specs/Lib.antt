pub mod Layout
pub mod Operations
pub mod Switches
