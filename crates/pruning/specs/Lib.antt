pub mod Prunes
pub mod Code
pub mod Laws
