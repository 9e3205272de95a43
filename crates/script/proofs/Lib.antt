pub mod Commands
pub mod Examples
