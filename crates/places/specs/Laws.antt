pub mod Bits
pub mod Joined
pub mod Places
