pub mod Limits
pub mod Boxes
pub mod Trivial
pub mod Narrowed
pub mod Counts
