pub mod Bytes
pub mod Field
pub mod Number
pub mod Written
