pub mod Limits
pub mod Passes
pub mod Answers
