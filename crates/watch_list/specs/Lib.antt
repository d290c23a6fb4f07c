pub mod Entry
pub mod Given
pub mod Watching
