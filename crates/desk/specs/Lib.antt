-- What the contracts of this crate cite.
pub mod Words
pub mod Calls
pub mod Replies
pub mod Carrying
pub mod Serving
