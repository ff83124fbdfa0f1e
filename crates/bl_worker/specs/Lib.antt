pub mod Splits
pub mod Loops
pub mod Jobs
pub mod Ends
pub mod Searches
