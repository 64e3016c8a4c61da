-- What the proofs of this crate share.
pub mod Fairness
pub mod Parts
