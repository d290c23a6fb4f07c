pub mod Computed
pub mod Places
