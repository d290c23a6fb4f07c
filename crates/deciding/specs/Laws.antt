pub mod Computed
pub mod SameTest
