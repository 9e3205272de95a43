pub mod Heads
pub mod Walks
pub mod Quick
pub mod Lowest
pub mod Spots
pub mod Nearest
