pub mod Sequences
pub mod Written
