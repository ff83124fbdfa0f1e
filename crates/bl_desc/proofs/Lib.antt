pub mod Canonical
pub mod Fewest
pub mod Ranges
pub mod Nothing
