pub mod Held
pub mod HeldLaws
pub mod ReadLaws
