pub mod Puts
pub mod Deletes
pub mod Counts
