pub mod Computed
pub mod Decided
pub mod Number
pub mod Rule
pub mod Word
