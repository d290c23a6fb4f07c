pub mod Computed
pub mod Faultless
pub mod PlainFile
pub mod Refused
pub mod Weight
