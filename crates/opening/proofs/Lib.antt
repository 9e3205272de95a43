pub mod Openings
pub mod Marks
pub mod Answers
pub mod Examples
pub mod HeldMends
pub mod HeldOpens
