pub mod Limits
pub mod Printed
pub mod Code
pub mod Laws
