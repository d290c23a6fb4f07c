pub mod Computed
pub mod FloatOrder
pub mod Keys
pub mod Rank
