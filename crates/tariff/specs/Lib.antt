-- What the contracts of this crate cite.
pub mod Standings
pub mod Terms
pub mod Rates
