pub mod Keys
pub mod Rank
pub mod Ranked
pub mod Reordered
pub mod Code
pub mod Laws
