-- What the proofs of this crate share.
pub mod Standing
pub mod Soundness
pub mod Setting
