pub mod Limits
pub mod Behaviour
pub mod Good
pub mod Laws
