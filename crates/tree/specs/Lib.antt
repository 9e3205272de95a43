pub mod Tree
pub mod Changes
pub mod Shape
pub mod Straight
pub mod Stores
pub mod Listing
pub mod Near
pub mod Grow
