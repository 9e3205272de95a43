pub mod Ways
pub mod Maps
