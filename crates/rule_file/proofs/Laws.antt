pub mod Accepted
pub mod Contents
pub mod Demand
pub mod Encoded
pub mod Examples
pub mod Fault
pub mod Name
