pub mod Examples
pub mod Rank
pub mod Ranked
pub mod Reordered
