pub mod Calls
pub mod Entry
pub mod Examples
pub mod List
pub mod Run
