-- What the contracts of this crate cite.
pub mod Unit
pub mod Units
pub mod Waiting
