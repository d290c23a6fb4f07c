pub mod Demand
pub mod Fate
pub mod Outcome
pub mod Passes
pub mod Reports
pub mod Code
pub mod Laws
