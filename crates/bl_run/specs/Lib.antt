pub mod Splitting
pub mod Runs
