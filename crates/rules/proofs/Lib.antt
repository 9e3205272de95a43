pub mod LowestFree
pub mod Counts
pub mod Splits
pub mod Fits
pub mod HeldRoom
pub mod HeldPuts
pub mod HeldDeletes
