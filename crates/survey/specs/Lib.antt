pub mod Surveys
pub mod Soundness
