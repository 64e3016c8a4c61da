pub mod Divisions
pub mod Fairness
pub mod Shares
pub mod Splitting
