pub mod Lookups
pub mod Answers
pub mod HeldLookup
pub mod Examples
