pub mod Kept
pub mod Outcome
pub mod Table
