pub mod Listings
pub mod Rows
