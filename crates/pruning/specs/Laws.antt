pub mod Reordered
pub mod Verdict
