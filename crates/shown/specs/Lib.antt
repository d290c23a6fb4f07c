pub mod Limits
pub mod Answer
pub mod Sequence
pub mod Shows
pub mod Code
pub mod Laws
