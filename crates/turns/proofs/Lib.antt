pub mod Given
pub mod Pages
