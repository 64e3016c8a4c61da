-- What the contracts of this crate cite.
pub mod Limits
pub mod Postings
pub mod Accounts
pub mod Refusals
pub mod Tables
pub mod Places
pub mod Meaning
