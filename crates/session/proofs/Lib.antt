pub mod Runs
pub mod Texts
pub mod Prints
