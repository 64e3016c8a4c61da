pub mod Answers
pub mod Measures
pub mod Rounding
