pub mod Activations
pub mod Following
pub mod Moves
