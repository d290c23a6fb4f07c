pub mod Bytes
pub mod Field
pub mod Laws
pub mod Seen
