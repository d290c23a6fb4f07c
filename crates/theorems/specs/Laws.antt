pub mod AsVerdict
