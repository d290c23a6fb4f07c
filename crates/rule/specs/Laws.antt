pub mod Behaviour
pub mod Same
pub mod Weight
