pub mod Bytes
pub mod Numbers
pub mod Lines
pub mod Kept
pub mod Turns
pub mod Input
