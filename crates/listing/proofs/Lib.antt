pub mod Loops
pub mod Visits
pub mod Listings
pub mod Bounds
pub mod Answers
pub mod HeldListing
