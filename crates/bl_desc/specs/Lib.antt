pub mod Changes
pub mod Weights
