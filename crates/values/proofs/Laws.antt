pub mod Activation
pub mod Answer
pub mod Given
pub mod OneValue
pub mod Own
pub mod Run
pub mod Value
