-- What the contracts of this crate cite. Read in this order.
pub mod Page
pub mod Counts
pub mod Told
pub mod Worlds
pub mod Law
