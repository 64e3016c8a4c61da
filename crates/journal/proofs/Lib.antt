-- What the proofs of this crate share.
pub mod Telling
pub mod Summing
pub mod Keeping
