pub mod Rounded
pub mod Found
pub mod Dives
