pub mod Views
pub mod Records
pub mod Kept
pub mod Calls
pub mod Answers
pub mod Chains
pub mod Jobs
