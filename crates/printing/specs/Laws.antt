pub mod Examples
pub mod Printed
