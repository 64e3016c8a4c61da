-- What the contracts of this crate cite.
pub mod Limits
pub mod Lines
pub mod Rows
pub mod Forms
