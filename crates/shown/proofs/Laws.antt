pub mod Given
pub mod Refused
pub mod Sequence
pub mod SequencesLaws
pub mod Shows
